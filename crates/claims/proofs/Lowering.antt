-- What is proved of lowering, over the bytes of the file and of the rows. `lowered file lent asked room` is what the contract of `lowering::lower_judged` says of a file, a table of so many lent, the component asked for and so much room; `lower_left` what it leaves in the lent bytes.
-- Assumes nothing.
use Prim.Native.Nat.{ℕ, ◌*◌, ◌≤◌}
use mathlib.Core.Bool.{Bool, true, false, cond, ◌&&◌}
use mathlib.Core.List.{List}
use mathlib.Core.Logic.{◌↔◌, ◌⊎◌, inl, inr}
use mathlib.Core.Path.{◌≡◌, refl, sym, ◌∙◌}
use native.Mathlib.Omega.{arith}
use lib.ListN.{length, drop}
use lib.Dec.{ltb}
use borrow.Author.Tests.{lt-ltb, le-ltb, ltb-true, ltb-false}
use Rattle.answers.specs.Fault as Fault
use Rattle.answers.specs.Answer.{Answer, accepted, refused, then, refusal, Counts, Refusal}
use Rattle.answers.specs.Once.{apart, one_refusal}
use Rattle.numbers.specs.Tests.{and_both}
use Rattle.timeline.specs.Design.{Design, class}
use Rattle.reading.specs.Tests.{is_built}
use Rattle.timetable.specs.Rows.{Row, rows}
use Rattle.timetable.specs.Bytes.{read_rows}
use Rattle.timetable.proofs.Main.{bytes_read_back}
use Rattle.verdict.specs.Judgement.{judgement}
use Rattle.groups.specs.Groups.{design_of}
use Rattle.lowering.specs.Answer.{component_rows, lowered, lower_left}
use Rattle.lowering.proofs.Answers.{built_class}
use Rattle.claims.specs.File.{said_records, said_design}
use Rattle.claims.specs.Rows.{DoTheTimetable}
pub use Rattle.claims.specs.Lowering.{Can, Cannot}
use Rattle.claims.proofs.After.{component_count, after_accepted, after_refused}
use Rattle.claims.proofs.Main as Main

-- A component of a design, with so much room.
module _ (D : Design) (c room : ℕ) where
  abbrev size : ℕ
  size = 16 * length (rows D c)

  found : (ltb c (length D) && is_built (class D c)) ≡ true → Can D c
  found e = let p = and_both (ltb c (length D)) (is_built (class D c)) e in (ltb-true c (length D) p.0, built_class (class D c) p.1)

  found_back : Can D c → (ltb c (length D) && is_built (class D c)) ≡ true
  unfolding is_built
  found_back h = rw (lt-ltb c (length D) h.0, h.1)

  component_lowered : (l : List Row) → (component_rows D c room ≡ accepted l) ↔ (Can D c × (16 * length l ≤ room) × (rows D c ≡ l))
  unfolding component_rows
  component_lowered l = (to (ltb c (length D) && is_built (class D c)) refl (ltb room size) refl, λ h. rw (found_back h.0, ← h.2) (rw (le-ltb room size (rw h.2 h.1))))
    where
      to : (t : Bool) → (ltb c (length D) && is_built (class D c)) ≡ t → (u : Bool) → ltb room size ≡ u
          → cond t (cond u (refused (refusal Fault.Room 0)) (accepted (rows D c))) (refused (refusal Fault.Absent c)) ≡ accepted l → Can D c × (16 * length l ≤ room) × (rows D c ≡ l)
      to true e true g h = absurd (apart (sym h))
      to true e false g h = let s : rows D c ≡ l = cc in (found e, rw (← s) (ltb-false room size g), s)
      to false e u g h = absurd (apart (sym h))

  component_refused : (r : Refusal) → (component_rows D c room ≡ refused r) ↔ Cannot D c room r
  unfolding component_rows
  component_refused r = (to (ltb c (length D) && is_built (class D c)) refl (ltb room size) refl, from (ltb c (length D) && is_built (class D c)) refl)
    where
      to : (t : Bool) → (ltb c (length D) && is_built (class D c)) ≡ t → (u : Bool) → ltb room size ≡ u
          → ◌≡◌ {A = Answer (List Row)} (cond t (cond u (refused (refusal Fault.Room 0)) (accepted (rows D c))) (refused (refusal Fault.Absent c))) (refused r) → Cannot D c room r
      to true e true g h = inr (sym (one_refusal h), found e, ltb-true room size g)
      to true e false g h = absurd (apart h)
      to false e u g h = inl (sym (one_refusal h), λ k. let z : ◌≡◌ {A = Bool} true false = sym (found_back k) ∙ e in absurd (let y : ◌≡◌ {A = ℕ} 0 1 = cc in omega arith))

      from : (t : Bool) → (ltb c (length D) && is_built (class D c)) ≡ t → Cannot D c room r
          → ◌≡◌ {A = Answer (List Row)} (cond t (cond (ltb room size) (refused (refusal Fault.Room 0)) (accepted (rows D c))) (refused (refusal Fault.Absent c))) (refused r)
      from true e (inl h) = absurd (h.1 (found e))
      from false e (inl h) = rw h.0
      from true e (inr h) = rw (lt-ltb room size h.2, h.0)
      from false e (inr h) = absurd (let z : ◌≡◌ {A = Bool} true false = sym (found_back h.1) ∙ e in let y : ◌≡◌ {A = ℕ} 0 1 = cc in omega arith)

module _ (file : List ℕ) (lent asked room : ℕ) where
  -- A component is lowered exactly when the file is accepted, the component is there and built, and its rows have room.
  pub record Lowers (l : List Row) : Type 0 where
    pub counts : Counts
    pub is_accepted : judgement file lent ≡ accepted counts
    pub can : Can (said_design file) asked
    pub enough : 16 * length l ≤ room
    pub are : rows (said_design file) asked ≡ l

  pub lowered_exactly : (l : List Row) → (lowered file lent asked room ≡ accepted l) ↔ Lowers l
  unfolding lowered
  lowered_exactly l =
      let after = after_accepted (λ D. component_rows D asked room) file lent l in
      let own = component_lowered (said_design file) asked room l in (
        λ e. (let (k, a, g) = after.0 e in let h = own.0 g in record { counts = k; is_accepted = a; can = h.0; enough = h.1; are = h.2 }),
        λ h. after.1 (h.counts, h.is_accepted, own.1 (h.can, h.enough, h.are)),
      )

  -- "Then 14, then every other 13": the file is accepted, and the component is absent or a leaf; or its rows have no room.
  pub record AcceptedBut (r : Refusal) : Type 0 where
    pub counts : Counts
    pub is_accepted : judgement file lent ≡ accepted counts
    pub because : Cannot (said_design file) asked room r

  pub refused_exactly : (r : Refusal) → (lowered file lent asked room ≡ refused r) ↔ (Main.First file lent r ⊎ AcceptedBut r)
  unfolding lowered
  refused_exactly r = (λ e. to (after.0 e), λ h. after.1 (from h))
    where
      after : (then (judgement file lent) (λ (k : Counts). component_rows (design_of file k.records) asked room) ≡ refused r)
          ↔ (Main.First file lent r ⊎ ((k : Counts) × (judgement file lent ≡ accepted k) × (component_rows (said_design file) asked room ≡ refused r)))
      after = after_refused (λ D. component_rows D asked room) file lent r

      to : Main.First file lent r ⊎ ((k : Counts) × (judgement file lent ≡ accepted k) × (component_rows (said_design file) asked room ≡ refused r)) → Main.First file lent r ⊎ AcceptedBut r
      to (inl h) = inl h
      to (inr (k, a, g)) = inr (record { counts = k; is_accepted = a; because = (component_refused (said_design file) asked room r).0 g })

      from : Main.First file lent r ⊎ AcceptedBut r → Main.First file lent r ⊎ ((k : Counts) × (judgement file lent ≡ accepted k) × (component_rows (said_design file) asked room ≡ refused r))
      from (inl h) = inl h
      from (inr h) = inr (h.counts, h.is_accepted, (component_refused (said_design file) asked room r).1 h.because)

-- The rows are read back from the bytes that were left, and do exactly what the timetable does.
module _ (file : List ℕ) (lent asked : ℕ) (old : List ℕ) (l : List Row) (h : lowered file lent asked (length old) ≡ accepted l) where
  pub rows_read : read_rows (length l) (lower_left file lent asked old) ≡ rows (said_design file) asked
  rows_read = rw h (bytes_read_back l (drop (16 * length l) old) ∙ sym ((lowered_exactly file lent asked (length old) l).0 h).are)

  pub rows_do : (S : ℕ → Type 0) → DoTheTimetable (said_design file) asked (said_records file) S (read_rows (length l) (lower_left file lent asked old))
  rows_do S =
      let g = (lowered_exactly file lent asked (length old) l).0 h in
      let there = rw (component_count file lent g.counts g.is_accepted) at g.can.0 in
      let w = Main.lowered file lent g.counts g.is_accepted asked there g.can.1 S in
      rw rows_read (record { drives = w.drives; starts = w.starts; connects = w.connects; one_driver = w.one_driver })
