-- At most one invocation of one start drives an instance's input in a cycle: each would be a use of that instance's unit, and no two uses hold the cycle.
-- Assumes nothing.
use Rattle.std.specs.Prelude.{ℕ, ◌+◌, ◌≡◌, [], ◌∷◌}
use Rattle.std.proofs.Common.{arith}
use Rattle.timeline.specs.Design.{Design, Source, input, instance, invoked, offset}
use Rattle.timeline.specs.Rules.{Holds}
use Rattle.timeline.proofs.Down.{Started}
use Rattle.timeline.proofs.Once.{input_once}
use Rattle.timetable.specs.Table.{TableDrives}

module _ {D : Design} {c : ℕ} {S : ℕ → Type 0} (g : Started D c S) where
  -- Two that drive one input in one cycle are one.
  pub one_driver : (x n i : ℕ) (s s' : Source) (r r' j j' t t' : ℕ) → TableDrives D c S x n i s r j t → TableDrives D c S x n i s' r' j' t'
      → (s ≡ s') × (r ≡ r') × (j ≡ j') × (t ≡ t')
  one_driver x n i s s' r r' j j' t t' h k =
      let u : instance D c j ∷ [] ≡ instance D c j' ∷ [] = cc (h.instance_is, k.instance_is) in
      let a : Holds (input D (invoked D c j) i) (t + (0 + offset D c j)) x = record { from = omega (arith, h.during); upto = omega (arith, h.during) } in
      let b : Holds (input D (invoked D c j') i) (t' + (0 + offset D c j')) x = record { from = omega (arith, k.during); upto = omega (arith, k.during) } in
      let e = input_once g t t' (j ∷ []) (j' ∷ []) x h.started k.started (h.invocation_there, tt) (k.invocation_there, tt) u i h.input_there a b in
      let q : j ≡ j' = cc e.1 in
      (cc (h.source_is, k.source_is), cc (h.record_is, k.record_is), q, e.0)
