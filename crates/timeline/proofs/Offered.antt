-- What a port requires in a cycle is offered by the source that its argument or connection names: this is the reading rule at one level.
-- Assumes nothing.
use Rattle.std.specs.Prelude.{ℕ, ◌+◌, ◌≤◌, ◌<◌, ◌≡◌, List, ◌∷◌}
use Rattle.std.proofs.Common.{arith}
use Rattle.timeline.specs.Design.{Design, Port, Source, own, output_of, constant, built, class, input_count, output_count, invocation_count}
use Rattle.timeline.specs.Design.{argument_count, connection_count, input, output, invoked, offset, argument, connection, gives}
use Rattle.timeline.specs.Rules.{Holds, There, Ready}
use Rattle.timeline.specs.Uses.{reach, PathOf, after}
use Rattle.timeline.proofs.Down.{Placed, use_whole, use_rules}

module _ (D : Design) (c : ℕ) where
  -- Source s is there, of an invocation before number n, and within its promised interval in cycle x, the component's event being in cycle a.
  abbrev pub Offered : (n : ℕ) → Source → (a x : ℕ) → Type 0
  Offered n (own i) a x = (i < input_count D c) × Holds (input D c i) a x
  Offered n (output_of j o) a x = (j < n) × (j < invocation_count D c) × (o < output_count D (invoked D c j)) × Holds (gives D c j o) (a + offset D c j) x
  Offered n (constant v) a x = Unit

  -- The source's interval contains the required one, so it holds each cycle that the required one holds.
  offered : (n : ℕ) (s : Source) (q : Port) (k a x : ℕ) → There D c n s → Ready D c s q k → Holds q (a + k) x → Offered n s a x
  offered n (own i) q k a x e r h = (e, omega arith)
  offered n (output_of j o) q k a x e r h = (omega arith, omega arith, omega arith, omega arith)
  offered n (constant v) q k a x e r h = tt

  pub offered_more : (n m : ℕ) (s : Source) (a x : ℕ) → n ≤ m → Offered n s a x → Offered m s a x
  offered_more n m (own i) a x l h = h
  offered_more n m (output_of j o) a x l h = (omega arith, h.1, h.2, h.3)
  offered_more n m (constant v) a x l h = tt

module _ {D : Design} {top : ℕ} (g : Placed D top) (t : ℕ) where
  -- What input i of invocation j requires, an earlier invocation offers.
  pub argument_offered : (p : List ℕ) (j i x : ℕ) → PathOf D top (j ∷ p) → i < input_count D (reach D top (j ∷ p))
      → Holds (input D (reach D top (j ∷ p)) i) (t + after D top (j ∷ p)) x
      → Offered D (reach D top p) j (argument D (reach D top p) j i) (t + after D top p) x
  argument_offered p j i x w l h =
      let c = reach D top p in
      let rules = use_rules g p w.1 in
      let k : i < argument_count D c j = omega (arith, (use_whole g p w.1).all_arguments j w.0) in
      offered D c j (argument D c j i) (input D (invoked D c j) i) (offset D c j) (t + after D top p) x
      (rules.references.argument_there j w.0 i k) (rules.reading.argument_ready j w.0 i k) (omega arith)

  -- What output o of a built component requires, some invocation in it offers.
  pub connection_offered : (p : List ℕ) (o x : ℕ) → PathOf D top p → class D (reach D top p) ≡ built → o < output_count D (reach D top p)
      → Holds (output D (reach D top p) o) (t + after D top p) x
      → Offered D (reach D top p) (invocation_count D (reach D top p)) (connection D (reach D top p) o) (t + after D top p) x
  connection_offered p o x w e l h =
      let c = reach D top p in
      let rules = use_rules g p w in
      let k : o < connection_count D c = omega (arith, (use_whole g p w).all_connections e) in
      offered D c (invocation_count D c) (connection D c o) (output D c o) 0 (t + after D top p) x
      (rules.references.connection_there o k) (rules.reading.connection_ready o k) (omega arith)
