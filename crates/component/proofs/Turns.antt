-- How the reading goes on from a record, stops at it, and ends.
-- Assumes nothing.
use Prim.Native.Nat.{ℕ, zero, suc, ◌+◌, ◌-◌, ◌≤◌, ◌<◌}
use mathlib.Core.Bool.{true, false, cond}
use mathlib.Core.Path.{◌≡◌, refl, sym, ap, ◌∙◌}
use mathlib.Core.List.{List, [], ◌∷◌}
use mathlib.Core.Logic.{◌≢◌}
use native.Mathlib.Omega.{arith}
use native.Mathlib.Numerals.{add-one}
use borrow.Author.Tests.{ne_eqb, eq-eqb}
use lib.Dec.{eqb}
use Rattle.answers.specs.Fault as Fault
use Rattle.answers.specs.Answer.{accepted, refused}
use Rattle.entry.specs.Records.{Record, wrong}
use Rattle.reading.specs.Place.{may_end}
use Rattle.reading.specs.Reader as Reading
use Rattle.reading.specs.Reader.{Row, tests}
use Rattle.reading.specs.Told.{told}
use Rattle.reading.specs.Scan.{scan, final, tried}
use Rattle.reading.specs.Reads.{Ranged, Passes}
use Rattle.rules.specs.Failed.{first_failed}
use Rattle.records.specs.Decoded.{decoded}
use Rattle.look.specs.Look.{sixteen, look}
use Rattle.reader.specs.State.{State}
use Rattle.reader.proofs.Passed.{numbered, passes, tried_first}
use Rattle.look.specs.Listed.{sixteens}
use Rattle.component.specs.Run.{Run, reads, after, view, next, Own, from, rest, last, Onward}
use Rattle.component.proofs.Keeps.{own_next}

module _ (file : List ℕ) (n : ℕ) where
  pub stay : (a : Run) (i : ℕ) → Onward file n a i a i
  stay a i = record { answer = refl; leads = refl }

  pub further : {a b c : Run} {i j k : ℕ} → Onward file n a i b j → Onward file n b j c k → Onward file n a i c k
  further p q = record { answer = p.answer ∙ q.answer; leads = p.leads ∙ q.leads }

  module _ (i : ℕ) (l : i < n) where
    from_more : from file n i ≡ decoded (sixteen file i) ∷ from file n (i + 1)
    unfolding sixteens
    from_more =
        let e : n - i ≡ suc (n - (i + 1)) = omega arith in
        rw e (rw add-one)

    module _ (s : Run) (x : Record) (is : decoded (sixteen file i) ≡ x) (m : ℕ) (t : m ≡ first_failed (tests (look file) (view s) x)) where
      turn_is : rest file n s i ≡ cond (eqb m 0) (rest file n (next s i x) (i + 1)) (refused (told (view s) x i m))
      unfolding scan
      turn_is =
          ap (λ rs. scan Run (λ u. tests (look file) (view u)) (λ u. Reading.ends (view u)) (λ u. told (view u)) (λ u. Reading.count (view u)) next s i rs) from_more
          ∙ rw (is, t, ← add-one i) (tried_first (tests (look file) (view s) x) (numbered (look file) (view s) x) (told (view s) x i) (rest file n (next s i x) (i + 1)))

      pub stops : m ≢ 0 → rest file n s i ≡ refused (told (view s) x i m)
      stops d = rw (ne_eqb m 0 d) at turn_is

      goes : m ≡ 0 → rest file n s i ≡ rest file n (next s i x) (i + 1)
      goes z = rw (eq-eqb m 0 z) at turn_is

      leads : last file n s i ≡ last file n (next s i x) (i + 1)
      unfolding final
      leads =
          ap (λ rs. final Run (λ u. tests (look file) (view u)) (λ u. Reading.ends (view u)) (λ u. told (view u)) (λ u. Reading.count (view u)) next s i rs) from_more
          ∙ rw (is, add-one i)

      pub steps : m ≡ 0 → Onward file n s i (next s i x) (i + 1)
      steps z = record { answer = goes z; leads = leads }

      pub passed : m ≡ 0 → Passes (tests (look file) (view s) x)
      passed z = passes (tests (look file) (view s) x) (numbered (look file) (view s) x) (sym t ∙ z)

      pub owns : m ≡ 0 → i < 65536 → Ranged x → Own s → Own (next s i x)
      owns z b r o = (own_next (look file) s i x b o r (passed z)).1

  module _ (i : ℕ) (l : n ≤ i) where
    from_none : from file n i ≡ []
    unfolding sixteens
    from_none = let e : n - i ≡ 0 = omega arith in rw e

    module _ (rows : ℕ → Row) (s : State) where
      pub ends_whole : may_end s.place ≡ true → rest file n (reads rows s) i ≡ accepted (record { components = s.number + 1; records = i })
      unfolding scan tried
      ends_whole e = rw (from_none, e)

      pub ends_short : may_end s.place ≡ false → rest file n (reads rows s) i ≡ refused (told (view (reads rows s)) wrong i Fault.Place)
      unfolding scan tried
      ends_short e = rw (from_none, e)

      pub ends_there : last file n (reads rows s) i ≡ reads rows s
      unfolding final
      ends_there = rw from_none

-- After at least one record.
pub after_some : (i : ℕ) (rows : ℕ → Row) (s : State) → 0 < i → after i rows s ≡ reads rows s
after_some zero rows s l = absurd (omega arith)
after_some (suc i) rows s l = refl
