-- The numbers that opening leaves: gathered from a table with the rows of the components, put into zeros, they are those of the definition; and they show those rows.
-- Assumes nothing.
use Prim.Native.Nat.{ℕ, zero, suc, ◌+◌, ◌-◌, ◌*◌, ◌≤◌, ◌<◌}
use mathlib.Core.Path.{◌≡◌, refl, sym, ap, subst, ◌∙◌}
use mathlib.Core.List.{List, [], ◌∷◌, ◌++◌, append_assoc, append-nil}
use native.Mathlib.Omega.{arith}
use native.Mathlib.Nat.{zero-add, suc-add}
use lib.ListN.{length, get_or, set, length-append, length-replicate}
use lib.Seq.{set-append_seam, get_or-append-add}
use Rattle.answers.specs.Answer.{Answer, accepted, refused, Counts}
use Rattle.timeline.specs.Design as Design
use Rattle.timeline.specs.Design.{Design}
use Rattle.entry.specs.Numbers.{component_number}
use Rattle.entry.specs.Entered.{design}
use Rattle.reading.specs.Reader.{Row}
use Rattle.reading.specs.Table.{RowOf, TableOf}
use Rattle.reading.specs.Tests.{is_built}
use Rattle.look.specs.Listed.{records_of}
use Rattle.signatures.specs.declared.Signature.{Signature}
use Rattle.reader.specs.Rows.{row, row_in, put_row}
use Rattle.reader.proofs.Class.{class_back}
use Rattle.component.specs.Wanted.{in_order, gathered}
use Rattle.verdict.specs.Judgement.{judgement, kept, Filled}
use Rattle.verdict.specs.Opening.{zeros, numbers, row_of, RowsOf, rows_from, design_rows, opening_rows}
use Rattle.verdict.proofs.Passed.{said_few}

set_behind : (l xs : List ℕ) (k v : ℕ) → set (l ++ xs) (length l + k) v ≡ l ++ set xs k v
set_behind [] xs k v = rw (zero-add k)
set_behind (y ∷ l) xs k v = rw (suc-add (length l) k) (ap (λ (r : List ℕ). y ∷ r) (set_behind l xs k v))

zeros_more : (m : ℕ) → zeros (5 * suc m) ≡ 0 ∷ 0 ∷ 0 ∷ 0 ∷ 0 ∷ zeros (5 * m)
unfolding zeros
zeros_more m = let e : 5 * suc m ≡ suc (suc (suc (suc (suc (5 * m))))) = omega arith in rw e

length_zeros : (n : ℕ) → length (zeros n) ≡ n
unfolding zeros
length_zeros n = length-replicate n 0

-- A row put where the zeros begin.
put_behind : (l : List ℕ) (c m : ℕ) (s : Signature) → length l ≡ 5 * c → put_row (l ++ zeros (5 * suc m)) c s ≡ l ++ numbers s ++ zeros (5 * m)
unfolding put_row
put_behind l c m s e =
    let z = zeros (5 * m) in
    rw (
      sym e,
      zeros_more m,
      set-append_seam l 0 (0 ∷ 0 ∷ 0 ∷ 0 ∷ z) s.class,
      set_behind l (s.class ∷ 0 ∷ 0 ∷ 0 ∷ 0 ∷ z) 1 s.delay,
      set_behind l (s.class ∷ s.delay ∷ 0 ∷ 0 ∷ 0 ∷ z) 2 s.inputs,
      set_behind l (s.class ∷ s.delay ∷ s.inputs ∷ 0 ∷ 0 ∷ z) 3 s.outputs,
      set_behind l (s.class ∷ s.delay ∷ s.inputs ∷ s.outputs ∷ 0 ∷ z) 4 s.first,
      append_assoc l (numbers s) z,
    )

module _ (D : Design) where
  one_more : (l : List ℕ) (c : ℕ) → length l ≡ 5 * c → length (l ++ numbers (row_of D c)) ≡ 5 * suc c
  one_more l c e = let y = length-append l (numbers (row_of D c)) in omega arith

  -- So many rows from component c on, behind l, with m rows of zeros left.
  gathers : (table : List Signature) (left c m : ℕ) (l : List ℕ) → length l ≡ 5 * c → ((i : ℕ) → i < c + left → kept table i ≡ row_of D i) → gathered (l ++ zeros (5 * (left + m))) table c (in_order left c) ≡ l ++ rows_from D left c ++ zeros (5 * m)
  unfolding gathered in_order rows_from
  gathers table zero c m l e right = rw (zero-add m, append-nil l)
  gathers table (suc left) c m l e right =
      let s = row_of D c in
      let put : put_row (l ++ zeros (5 * (suc left + m))) c (kept table c) ≡ l ++ numbers s ++ zeros (5 * (left + m)) =
      ap (λ (k : ℕ). put_row (l ++ zeros (5 * k)) c (kept table c)) (suc-add left m) ∙ ap (put_row (l ++ zeros (5 * suc (left + m))) c) (right c (omega arith)) ∙ put_behind l c (left + m) s e in
      ap (λ (r : List ℕ). gathered r table (suc c) (in_order left (suc c))) put ∙ gathers table left (suc c) m (l ++ numbers s) (one_more l c e) (λ i h. right i (omega arith))
      ∙ ap (λ (r : List ℕ). r ++ zeros (5 * m)) (append_assoc l (numbers s) (rows_from D left (suc c)))

  pub gathers_all : (table : List Signature) → RowsOf D (kept table) → length D ≤ 64 → gathered (zeros 320) table 0 (in_order (length D) 0) ≡ design_rows D
  gathers_all table right few =
      let m = 64 - length D in
      let e : 320 ≡ 5 * (length D + m) = omega arith in
      ap (λ (k : ℕ). gathered (zeros k) table 0 (in_order (length D) 0)) e ∙ (gathers table (length D) 0 m [] refl (λ i h. right i (omega arith)))

  length_rows : (left c : ℕ) → length (rows_from D left c) ≡ 5 * left
  unfolding rows_from
  length_rows zero c = refl
  length_rows (suc left) c = let y = length_rows left (suc c) in omega arith

  pub length_all : length D ≤ 64 → length (design_rows D) ≡ 320
  length_all few =
      let m = 64 - length D in
      length-append (rows_from D (length D) 0) (zeros (5 * m)) ∙ (let y = length_rows (length D) 0 in let z : length (zeros (5 * m)) ≡ 5 * m = length_zeros (5 * m) in omega arith)

  -- Behind l, each of them shows its component's row.
  shows : (left c i : ℕ) (l z : List ℕ) → length l ≡ 5 * c → i < left → row_in (l ++ rows_from D left c ++ z) (c + i) ≡ row (row_of D (c + i))
  unfolding rows_from row_in
  shows zero c i l z e h = absurd (omega arith)
  shows (suc left) c zero l z e h =
      let f : c + 0 ≡ c = omega arith in
      let ys = numbers (row_of D c) ++ rows_from D left (suc c) ++ z in
      let here : (k : ℕ) → get_or (l ++ ys) (length l + k) 0 ≡ get_or ys k 0 = λ k. get_or-append-add l ys k 0 in
      rw (f, append_assoc l (numbers (row_of D c) ++ rows_from D left (suc c)) z, sym e) (rw (here 1, here 2, here 3, here 4) (let y : get_or (l ++ ys) (length l) 0 ≡ (row_of D c).class = rw (let g : length l + 0 ≡ length l = omega arith in g) at (here 0) in rw y))
  shows (suc left) c (suc i) l z e h =
      let f : c + suc i ≡ suc c + i = omega arith in
      rw (f, sym (append_assoc l (numbers (row_of D c)) (rows_from D left (suc c)))) (shows left (suc c) i (l ++ numbers (row_of D c)) z (one_more l c e) (omega arith))

  of_row : (c : ℕ) → RowOf (Design.component D c) (component_number D c) (row (row_of D c))
  unfolding Design.class Design.delay Design.input_count Design.output_count
  of_row c = record { built = class_back (is_built (Design.class D c)); delay = refl; inputs = refl; outputs = refl; first = refl }

  pub all_filled : TableOf D (λ c. row_in (design_rows D) c)
  all_filled c h =
      let y : row_in (design_rows D) (0 + c) ≡ row (row_of D (0 + c)) = shows (length D) 0 c [] (zeros (5 * (64 - length D))) refl h in
      let z : row_in (design_rows D) c ≡ row (row_of D c) = rw (zero-add c) at y in
      subst (λ (v : Row). RowOf (Design.component D c) (component_number D c) v) (sym z) (of_row c)

-- What lowering and listing ask of an opening.
pub opened_filled : (file : List ℕ) (lent : ℕ) (a : Answer Counts) (rows : List ℕ) → a ≡ judgement file lent → rows ≡ opening_rows a file → Filled a file rows × (length rows ≡ 320)
opened_filled file lent (accepted k) rows j e =
    let D = design (records_of file k.records) in
    (subst (λ (ns : List ℕ). TableOf D (λ c. row_in ns c)) (sym e) (all_filled D), ap length e ∙ length_all D (said_few file lent k (sym j)).0)
opened_filled file lent (refused r) rows j e = (tt, ap length e ∙ length_zeros 320)
