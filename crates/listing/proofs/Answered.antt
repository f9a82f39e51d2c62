-- The answer and the bytes that are left, by cases: component absent, no room, no rows, rows.
-- Assumes nothing.
use Prim.Native.Nat.{ℕ, suc, ◌+◌, ◌*◌, ◌≤◌, ◌<◌}
use mathlib.Core.Path.{◌≡◌, refl, ap, sym, ◌∙◌}
use mathlib.Core.Bool.{true, false, ◌&&◌}
use mathlib.Core.List.{List, ◌++◌}
use native.Mathlib.Omega.{arith}
use native.Mathlib.Decide.{dec_lt}
use lib.ListN.{length, get_or, drop}
use lib.Dec.{leb}
use borrow.Author.Tests.{lt-ltb, le-ltb, leb-true, lt-leb}
use Rattle.numbers.specs.Tests.{and_both}
use Rattle.answers.specs.Fault as Fault
use Rattle.answers.specs.Answer.{Answer, accepted, refused, refusal}
use Rattle.timeline.specs.Design.{Design}
use Rattle.timeline.specs.Rules.{Lawful}
use Rattle.timeline.specs.Flat.{row_count, unit_count, rows}
use Rattle.timeline.proofs.Rows.{rows_length, rows_none}
use Rattle.expansion.specs.Bytes.{rows_bytes}
use Rattle.expansion.specs.Notes.{listed}
use Rattle.expansion.specs.Asked.{Expands}
use Rattle.expansion.specs.Noted.{capped}
use Rattle.expansion.proofs.Same.{noted_sound, listed_rows}
use Rattle.counting.specs.declared.Totals.{Totals}
use Rattle.counting.specs.Known.{Known}
use Rattle.listing.specs.Answer.{fits, flat_answer, flat_left}

-- The limits are above every count that was not stopped.
pub fits_capped : (a b room : ℕ) → fits (capped a) (capped b) room ≡ fits a b room
fits_capped a b room = go (dec_lt 4096 a) (dec_lt 4096 b)
  where
    go : Dec (4096 < a) → Dec (4096 < b) → fits (capped a) (capped b) room ≡ fits a b room
    go (yes p) q = rw (lt-leb a 4096 p, lt-leb (capped a) 4096 (omega arith))
    go (no p) (yes q) = let e : capped a ≡ a = omega arith in rw (e, lt-leb b 4096 q, lt-leb (capped b) 4096 (omega arith))
    go (no p) (no q) = let e : capped a ≡ a = omega arith in let f : capped b ≡ b = omega arith in rw (e, f)

fits_says : (a b room : ℕ) → fits a b room ≡ true → (a ≤ 4096) × (b ≤ 4096) × (8 * a ≤ room)
fits_says a b room e =
    let p = and_both (leb a 4096 && leb b 4096) (leb (8 * a) room) e in
    let q = and_both (leb a 4096) (leb b 4096) p.0 in
    (leb-true a 4096 q.0, leb-true b 4096 q.1, leb-true (8 * a) room p.1)

-- What a call may answer and leave.
abbrev pub Answers : Design → (asked : ℕ) → (old : List ℕ) → Answer ℕ → (new : List ℕ) → Type 0
Answers D asked old a new = (a ≡ flat_answer D asked (length old)) × (new ≡ flat_left D asked old)

module _ (D : Design) (c : ℕ) (old : List ℕ) where
  pub absent : length D ≤ c → Answers D c old (refused (refusal Fault.Absent c)) old
  unfolding flat_left flat_answer
  absent h = rw (le-ltb c (length D) h) (refl, refl)

  module _ (h : c < length D) where
    pub no_room : fits (row_count D c) (unit_count D c) (length old) ≡ false → Answers D c old (refused (refusal Fault.Room 0)) old
    unfolding flat_left flat_answer
    no_room e = rw (lt-ltb c (length D) h, e) (refl, refl)

    listed_left : fits (row_count D c) (unit_count D c) (length old) ≡ true → Answers D c old (accepted (row_count D c)) (rows_bytes (rows D c) ++ drop (8 * row_count D c) old)
    unfolding flat_left flat_answer
    listed_left e = rw (lt-ltb c (length D) h, e) (refl, refl)

    pub no_rows : fits (row_count D c) (unit_count D c) (length old) ≡ true → row_count D c ≡ 0 → Answers D c old (accepted 0) old
    unfolding rows rows_bytes
    no_rows e z =
        let a = listed_left e in
        (rw z at a.0, sym (rw (z, rows_none D c 0 0 z)) ∙ a.1)

-- A component that has been counted.
module _ {D : Design} (lawful : Lawful D) (c : ℕ) (h : c < length D) {totals : Totals} (k : Known D (c + 1) totals) where
  pub fits_is : (room : ℕ) → fits (get_or totals.rows c 0) (get_or totals.units c 0) room ≡ fits (row_count D c) (unit_count D c) room
  fits_is room = rw (k.row_counts c (omega arith), k.unit_counts c (omega arith)) (fits_capped (row_count D c) (unit_count D c) room)

  module _ (old : List ℕ) (f : fits (get_or totals.rows c 0) (get_or totals.units c 0) (length old) ≡ true) where
    fine : fits (row_count D c) (unit_count D c) (length old) ≡ true
    fine = sym (fits_is (length old)) ∙ f

    pub count_is : get_or totals.rows c 0 ≡ row_count D c
    count_is =
        let e = k.row_counts c (omega arith) in
        let w = fits_says (row_count D c) (unit_count D c) (length old) fine in
        omega arith

    pub none_left : get_or totals.rows c 0 ≡ 0 → Answers D c old (accepted 0) old
    none_left z = no_rows D c old h fine (sym count_is ∙ z)

    module _ (s : get_or totals.rows c 0 ≡ 0 → ⊥) where
      rows_are : listed totals.notes.noted totals.notes.ends c 0 0 ≡ rows D c
      unfolding rows
      rows_are =
          let w = fits_says (row_count D c) (unit_count D c) (length old) fine in
          let e = count_is in
          listed_rows lawful k.notes (omega arith) (suc c) c 0 0 (omega arith) (omega arith) (omega arith) w.1

      pub write_asked : (size : ℕ) → size ≡ 8 * get_or totals.rows c 0 → Expands totals.notes.noted totals.notes.ends c 0 0 × (size ≡ 8 * length (listed totals.notes.noted totals.notes.ends c 0 0)) × (size ≤ 32768) × (size ≤ length old)
      unfolding rows
      write_asked size es =
          let w = fits_says (row_count D c) (unit_count D c) (length old) fine in
          let l = rows_length D c 0 0 in
          let e = ap length rows_are in
          let n = count_is in
          let q = lawful.few in
          (record { sound = noted_sound lawful k.notes (omega arith); few = omega arith; cycles = omega arith; units = omega arith }, omega arith, omega arith, omega arith)

      pub some_left : (size : ℕ) (new : List ℕ) → size ≡ 8 * get_or totals.rows c 0 → new ≡ rows_bytes (listed totals.notes.noted totals.notes.ends c 0 0) ++ drop size old → Answers D c old (accepted (get_or totals.rows c 0)) new
      some_left size new es w =
          let a = listed_left D c old h fine in
          (rw count_is a.0, w ∙ rw (rows_are, es, count_is) a.1)
