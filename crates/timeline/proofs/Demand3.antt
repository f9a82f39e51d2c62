-- Demand 3, proved: a built component of a lawful design, started at any cycles at least its delay apart and expanded to leaf units, is safe.
-- Assumes nothing.
use Rattle.std.specs.Prelude.{ℕ, ◌<◌, ◌≡◌, refl, List, [], ◌∷◌, length}
use Rattle.std.proofs.Common.{arith}
use Rattle.timeline.specs.Design.{Design, Source, own, built, class, delay, connection, takes}
use Rattle.timeline.specs.Rules.{Lawful}
use Rattle.timeline.specs.Uses.{Spaced, reach, PathOf, lasts, Found}
use Rattle.timeline.proofs.Down.{Started}
use Rattle.timeline.proofs.Apart.{not_again}
use Rattle.timeline.proofs.Once.{input_once}
use Rattle.timeline.proofs.Offered.{connection_offered}
use Rattle.timeline.proofs.Follow.{offered_found}
use Rattle.timeline.proofs.Carried.{Offers, carried, alone}
use Rattle.timeline.specs.Demand3.{Read, Safe}

-- The own delay of every use is the delay of its leaf.
pub own_delay_is : (D : Design) (top : ℕ) (p : List ℕ) → lasts D top p ≡ delay D (reach D top p)
unfolding takes
own_delay_is D top [] = refl
own_delay_is D top (j ∷ p) = refl

-- What is offered is read.
offered_read : {D : Design} {top : ℕ} {S : ℕ → Type 0} → Started D top S → (t : ℕ) → S t
    → (p : List ℕ) (r : Source) (x : ℕ) → PathOf D top p → Offers D top t x p r → Read D top S t p r x
offered_read {D} {top} {S} g t s p r x w o =
    let f : Found D top S t p r x = offered_found g t s p w r x o in
    record {
      found = f;
      carried = carried g t s x f.from w o;
      alone = λ v c. alone g t s x p r f.end v w o f.from c;
    }

pub demand_3 : (D : Design) → Lawful D → (top : ℕ) → top < length D → class D top ≡ built → (S : ℕ → Type 0) → Spaced (delay D top) S → Safe D top S
demand_3 D lawful top there is_built S starts =
    let g : Started D top S = record { placed = record { lawful = lawful; there = there }; starts = starts } in
    record {
      apart = λ u v e l. not_again g u.start v.start u.started v.started u.path v.path u.is_path v.is_path e l;
      driven_once = λ u v e i x l h k. input_once g u.start v.start u.path v.path x u.started v.started u.is_path v.is_path e i l h k;
      inputs_read = λ u i x l h. offered_read g u.start u.started u.path (own i) x u.is_path (l, h);
      outputs_read = λ t o x s l h. offered_read g t s [] (connection D top o) x tt (connection_offered g.placed t [] o x tt is_built l (omega arith));
    }
