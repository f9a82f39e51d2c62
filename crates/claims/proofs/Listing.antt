-- What is proved of the flat listing, over the bytes of the file and of the rows. `list_answer file lent asked room` is what the contract of `listing::list_judged` says of a file, a table of so many lent, the component asked for and so much room; `list_left` what it leaves in the lent bytes.
-- Assumes nothing.
use Prim.Native.Nat.{ℕ, suc, ◌*◌, ◌^◌, ◌≤◌, ◌<◌}
use mathlib.Core.Bool.{Bool, true, false, cond, ◌&&◌}
use mathlib.Core.List.{List, [], ◌∷◌, ◌++◌, append_assoc}
use mathlib.Core.Logic.{◌↔◌, ◌⊎◌, inl, inr}
use mathlib.Core.Path.{◌≡◌, refl, sym, ◌∙◌}
use native.Mathlib.Omega.{arith}
use lib.ListN.{length, get_or, drop}
use lib.Seq.{drop_at}
use lib.Dec.{ltb, leb}
use borrow.Author.Tests.{lt-ltb, le-ltb, ltb-true, ltb-false, le-leb, leb-true}
use Rattle.answers.specs.Fault as Fault
use Rattle.answers.specs.Answer.{Answer, accepted, refused, then, refusal, Counts, Refusal}
use Rattle.answers.specs.Once.{apart, one_refusal}
use Rattle.numbers.specs.Numbers.{number}
use Rattle.numbers.specs.Tests.{and_both}
use Rattle.numbers.proofs.Bytes.{number_bytes}
use Rattle.timeline.specs.Design.{Design}
use Rattle.timeline.specs.Rules.{Lawful}
use Rattle.timeline.specs.Flat.{Row, row_count, unit_count, rows}
use Rattle.timeline.specs.Listing.{no_row}
use Rattle.timeline.proofs.Listing.{flat_listing}
use Rattle.timeline.proofs.Rows.{cycle_below}
use Rattle.verdict.specs.Judgement.{judgement}
use Rattle.groups.specs.Groups.{design_of}
use Rattle.expansion.specs.Bytes.{row_bytes, rows_bytes}
use Rattle.listing.specs.Answer.{fits, flat_answer, list_answer, flat_left, list_left}
use Rattle.claims.specs.File.{said_design}
use Rattle.claims.specs.Starts.{read_start, read_starts, TellTheStarts}
pub use Rattle.claims.specs.Listing.{Fits, Cannot}
use Rattle.claims.proofs.After.{same_design, component_count, after_accepted, after_refused}
use Rattle.claims.proofs.Main as Main

-- ---- bytes and back
-- The numbers of a row find room in its bytes.
abbrev Small : Row → Type 0
Small r = (r.cycle < 256 ^ 4) × (r.unit < 256 ^ 2) × (r.component < 256 ^ 2)

start_back : (r : Row) (more : List ℕ) → Small r → read_start (row_bytes r ++ more) ≡ r
unfolding row_bytes
start_back r more h =
    let a : number 4 (row_bytes r ++ more) 0 ≡ r.cycle = number_bytes 4 (row_bytes r ++ more) 0 r.cycle (omega arith) h.0 refl in
    let b : number 2 (row_bytes r ++ more) 4 ≡ r.unit = number_bytes 2 (row_bytes r ++ more) 4 r.unit (omega arith) h.1 refl in
    let c : number 2 (row_bytes r ++ more) 6 ≡ r.component = number_bytes 2 (row_bytes r ++ more) 6 r.component (omega arith) h.2 refl in
    rw (a, b, c)

eight : (r : Row) → length (row_bytes r) ≡ 8
unfolding row_bytes
eight r = refl

starts_back : (l : List Row) (more : List ℕ) → ((i : ℕ) → i < length l → Small (get_or l i no_row)) → read_starts (length l) (rows_bytes l ++ more) ≡ l
unfolding read_starts rows_bytes
starts_back [] more h = refl
starts_back (r ∷ l) more h =
    let e = start_back r (rows_bytes l ++ more) (h 0 (omega arith)) in
    let d : drop 8 (row_bytes r ++ (rows_bytes l ++ more)) ≡ rows_bytes l ++ more = drop_at (row_bytes r) (rows_bytes l ++ more) 8 (eight r) in
    rw (append_assoc (row_bytes r) (rows_bytes l) more) (rw (e, d, starts_back l more (λ i p. h (suc i) (omega arith))))

-- ---- how large the numbers of a listing are
module _ (D : Design) (lawful : Lawful D) (top : ℕ) (there : top < length D) (few : unit_count D top ≤ 4096) where
  row_small : (i : ℕ) → i < length (rows D top) → Small (get_or (rows D top) i no_row)
  row_small i l =
      let L = flat_listing D lawful top there (λ t. t ≡ 0) in
      let (u, s, n) = L.row_has_use 0 i refl (omega (arith, L.row_total, l)) in
      let b = cycle_below lawful top there u.path u.is_path in
      let c = rw n at (L.row_cycle u) in
      let v = rw n at (L.row_unit u) in
      let w = L.number_below u in
      let k = rw n at (L.row_component u) in
      let f = lawful.few in
      (omega arith, omega arith, omega arith)

-- ---- answers
module _ (D : Design) (asked room : ℕ) where
  abbrev test : Bool
  test = fits (row_count D asked) (unit_count D asked) room

  fit : test ≡ true → Fits D asked room
  fit e =
      let p = and_both (leb (row_count D asked) 4096 && leb (unit_count D asked) 4096) (leb (8 * row_count D asked) room) e in
      let q = and_both (leb (row_count D asked) 4096) (leb (unit_count D asked) 4096) p.0 in
      (leb-true _ _ q.0, leb-true _ _ q.1, leb-true _ _ p.1)

  fit_back : Fits D asked room → test ≡ true
  fit_back h = rw (le-leb _ _ h.0, le-leb _ _ h.1, le-leb _ _ h.2)

  flat_accepted : (n : ℕ) → (flat_answer D asked room ≡ accepted n) ↔ ((asked < length D) × Fits D asked room × (row_count D asked ≡ n))
  unfolding flat_answer
  flat_accepted n = (to (ltb asked (length D)) refl test refl, λ h. rw (lt-ltb asked (length D) h.0, fit_back h.1, h.2))
    where
      to : (t : Bool) → ltb asked (length D) ≡ t → (u : Bool) → test ≡ u
          → ◌≡◌ {A = Answer ℕ} (cond t (cond u (accepted (row_count D asked)) (refused (refusal Fault.Room 0))) (refused (refusal Fault.Absent asked))) (accepted n) → (asked < length D) × Fits D asked room × (row_count D asked ≡ n)
      to true e true g h = (ltb-true asked (length D) e, fit g, cc)
      to true e false g h = absurd (apart (sym h))
      to false e u g h = absurd (apart (sym h))

  flat_refused : (r : Refusal) → (flat_answer D asked room ≡ refused r) ↔ Cannot D asked room r
  unfolding flat_answer
  flat_refused r = (to (ltb asked (length D)) refl test refl, from test refl)
    where
      no : {t : Bool} → t ≡ true → t ≡ false → ⊥
      no a b = let z : ◌≡◌ {A = Bool} true false = sym a ∙ b in let y : ◌≡◌ {A = ℕ} 0 1 = cc in omega arith

      to : (t : Bool) → ltb asked (length D) ≡ t → (u : Bool) → test ≡ u
          → ◌≡◌ {A = Answer ℕ} (cond t (cond u (accepted (row_count D asked)) (refused (refusal Fault.Room 0))) (refused (refusal Fault.Absent asked))) (refused r) → Cannot D asked room r
      to true e true g h = absurd (apart h)
      to true e false g h = inr (sym (one_refusal h), ltb-true asked (length D) e, λ k. no (fit_back k) g)
      to false e u g h = inl (sym (one_refusal h), ltb-false asked (length D) e)

      from : (u : Bool) → test ≡ u → Cannot D asked room r → ◌≡◌ {A = Answer ℕ} (cond (ltb asked (length D)) (cond u (accepted (row_count D asked)) (refused (refusal Fault.Room 0))) (refused (refusal Fault.Absent asked))) (refused r)
      from u g (inl h) = rw (le-ltb asked (length D) h.1, h.0)
      from true g (inr h) = absurd (h.2 (fit g))
      from false g (inr h) = rw (lt-ltb asked (length D) h.1, h.0)

module _ (file : List ℕ) (lent asked room : ℕ) where
  -- A component is listed exactly when the file is accepted, the component is there, and its rows and units are within the limits and have room.
  pub record Lists (n : ℕ) : Type 0 where
    pub counts : Counts
    pub is_accepted : judgement file lent ≡ accepted counts
    pub present : asked < length (said_design file)
    pub within : Fits (said_design file) asked room
    pub count : row_count (said_design file) asked ≡ n

  pub listed_exactly : (n : ℕ) → (list_answer file lent asked room ≡ accepted n) ↔ Lists n
  unfolding list_answer
  listed_exactly n =
      let after = after_accepted (λ D. flat_answer D asked room) file lent n in
      let own = flat_accepted (said_design file) asked room n in (
        λ e. (let (k, a, g) = after.0 e in let h = own.0 g in record { counts = k; is_accepted = a; present = h.0; within = h.1; count = h.2 }),
        λ h. after.1 (h.counts, h.is_accepted, own.1 (h.present, h.within, h.count)),
      )

  -- "Then 14, then every other 13": the file is accepted, and the component is absent; or a limit is passed or the rows have no room.
  pub record AcceptedBut (r : Refusal) : Type 0 where
    pub counts : Counts
    pub is_accepted : judgement file lent ≡ accepted counts
    pub because : Cannot (said_design file) asked room r

  pub refused_exactly : (r : Refusal) → (list_answer file lent asked room ≡ refused r) ↔ (Main.First file lent r ⊎ AcceptedBut r)
  unfolding list_answer
  refused_exactly r = (λ e. to (after.0 e), λ h. after.1 (from h))
    where
      after : (then (judgement file lent) (λ (k : Counts). flat_answer (design_of file k.records) asked room) ≡ refused r)
          ↔ (Main.First file lent r ⊎ ((k : Counts) × (judgement file lent ≡ accepted k) × (flat_answer (said_design file) asked room ≡ refused r)))
      after = after_refused (λ D. flat_answer D asked room) file lent r

      to : Main.First file lent r ⊎ ((k : Counts) × (judgement file lent ≡ accepted k) × (flat_answer (said_design file) asked room ≡ refused r)) → Main.First file lent r ⊎ AcceptedBut r
      to (inl h) = inl h
      to (inr (k, a, g)) = inr (record { counts = k; is_accepted = a; because = (flat_refused (said_design file) asked room r).0 g })

      from : Main.First file lent r ⊎ AcceptedBut r → Main.First file lent r ⊎ ((k : Counts) × (judgement file lent ≡ accepted k) × (flat_answer (said_design file) asked room ≡ refused r))
      from (inl h) = inl h
      from (inr h) = inr (h.counts, h.is_accepted, (flat_refused (said_design file) asked room r).1 h.because)

-- The rows are read back from the bytes that were left, and tell every unit start of demand 3.
module _ (file : List ℕ) (lent asked : ℕ) (old : List ℕ) (n : ℕ) (h : list_answer file lent asked (length old) ≡ accepted n) where
  pub starts_read : read_starts n (list_left file lent asked old) ≡ rows (said_design file) asked
  unfolding list_left flat_left
  starts_read =
      let g = (listed_exactly file lent asked (length old) n).0 h in
      let k = g.counts in
      let d = Main.its_design file lent k g.is_accepted in
      let there = g.present in
      let e = (flat_accepted (said_design file) asked (length old) n).1 (there, g.within, g.count) in
      let c : length (rows (said_design file) asked) ≡ n = (flat_listing (said_design file) d.0 asked there (λ t. t ≡ 0)).row_total ∙ g.count in
      let b = starts_back (rows (said_design file) asked) (drop (8 * n) old) (row_small (said_design file) d.0 asked there g.within.1) in
      rw (g.is_accepted, same_design file lent k g.is_accepted, e) (rw c at b)

  pub starts_told : (S : ℕ → Type 0) → TellTheStarts (said_design file) asked S (read_starts n (list_left file lent asked old))
  starts_told S =
      let g = (listed_exactly file lent asked (length old) n).0 h in
      let k = g.counts in
      let there = rw (component_count file lent k g.is_accepted) at g.present in
      let L = Main.listed file lent k g.is_accepted asked there S in
      rw starts_read (record {
        total = L.row_total;
        use_has_row = λ u. rw L.row_total (L.use_has_row u);
        row_cycle = L.row_cycle;
        row_unit = L.row_unit;
        row_component = L.row_component;
        row_has_use = λ t i s l. L.row_has_use t i s (rw L.row_total at l);
      })
