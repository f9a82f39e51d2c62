-- In a cycle in which a source is offered, the wires carry what following it finds, and carry nothing else.
-- The wires may take a guard of any start and use. Where the guard's input is offered, only the use that reads has it active.
-- Assumes nothing.
use Rattle.std.specs.Prelude.{ℕ, ◌+◌, ◌≡◌}
use Rattle.std.proofs.Math.Path.{refl, ap}
use Rattle.std.proofs.Common.{sym, ◌∙◌, arith}
use mathlib.Core.List.{List, [], ◌∷◌}
use Rattle.timeline.specs.Design.{Design, Source, own, output_of, built, class, invocation_count, output, invoked, argument}
use Rattle.timeline.specs.Design.{connection, gives}
use Rattle.timeline.specs.Rules.{Holds}
use Rattle.timeline.specs.Uses.{End, at_output, reach, PathOf, unit, after, From, here_constant, here_input, here_output, up}
use Rattle.timeline.specs.Uses.{down}
use Rattle.timeline.specs.Wires.{Pin, component_of, pin, Carries, by_constant, by_top, by_leaf, by_connection, by_argument}
use Rattle.timeline.proofs.Takes.{gives_built}
use Rattle.timeline.proofs.Down.{Placed, Started, unit_component}
use Rattle.timeline.proofs.Once.{input_once}
use Rattle.timeline.proofs.Offered.{Offered, offered_more, argument_offered, connection_offered}
use Rattle.timeline.proofs.OneEnd.{constant_end, input_end, argument_end, leaf_end, connection_end}

module _ (D : Design) (top t x : ℕ) where
  -- Source r of the use p, of start t, is offered in cycle x.
  abbrev pub Offers : List ℕ → Source → Type 0
  Offers p r = Offered D (reach D top p) (invocation_count D (reach D top p)) r (t + after D top p) x

module _ {D : Design} {top : ℕ} (h : Placed D top) (t x : ℕ) where
  -- One step along a source, up an argument or down a connection, leads to what is offered again.
  step_up : (p : List ℕ) (j i : ℕ) → PathOf D top (j ∷ p) → Offers D top t x (j ∷ p) (own i) → Offers D top t x p (argument D (reach D top p) j i)
  step_up p j i w o =
      offered_more D (reach D top p) j (invocation_count D (reach D top p)) (argument D (reach D top p) j i) (t + after D top p) x
      (omega arith) (argument_offered h t p j i x w o.0 o.1)

  step_down : (p : List ℕ) (j k : ℕ) → PathOf D top p → class D (reach D top (j ∷ p)) ≡ built → Offers D top t x p (output_of j k)
      → Offers D top t x (j ∷ p) (connection D (reach D top (j ∷ p)) k)
  step_down p j k w c o =
      let a : Holds (gives D (reach D top p) j k) (t + after D top (j ∷ p)) x = omega arith in
      let b : Holds (output D (reach D top (j ∷ p)) k) (t + after D top (j ∷ p)) x = rw (gives_built D (reach D top p) j k c) at a in
      connection_offered h t (j ∷ p) k x (o.1, w) c o.2 b

module _ {D : Design} {top : ℕ} {S : ℕ → Type 0} (g : Started D top S) (t : ℕ) (s : S t) (x : ℕ) where
  pub carried : {p : List ℕ} {r : Source} {e : End} → From D top p r e → PathOf D top p → Offers D top t x p r
      → Carries D top S x (unit D top p) r (pin D top e)
  unfolding invoked
  carried here_constant w o = by_constant
  carried here_input w o = by_top
  carried (here_output {p = p} {j = j} {o = k} c) w o =
      rw (← unit_component D top p) (by_leaf {u = unit D top p} {j = j} {o = k} (rw (unit_component D top p) c))
  carried (up {p = p} {j = j} {i = i} f) w o = by_argument {i = i} t j p s w refl (omega arith) (carried f w.1 (step_up g.placed t x p j i w o))
  carried (down {p = p} {j = j} {o = k} {e = e} c f) w o =
      let a = carried f (o.1, w) (step_down g.placed t x p j k w c o) in
      by_connection {u = unit D top p} {j = j} {o = k} {w = pin D top e} (rw (unit_component D top p) c) (rw (unit_component D top p) a)

  -- The unit u and the source r of what is carried stand as variables, told by equations: they are indices of `Carries`.
  nothing_else : {u : List ℕ} {r : Source} {v : Pin} (p : List ℕ) (r' : Source) (e : End) → Carries D top S x u r v → u ≡ unit D top p → r ≡ r'
      → PathOf D top p → Offers D top t x p r' → From D top p r' e → v ≡ pin D top e
  unfolding invoked
  nothing_else p r' e by_constant a q w o f = ap (pin D top) (sym (constant_end (rw (← q) at f)))
  nothing_else [] r' e by_top a q w o f = ap (pin D top) (sym (input_end (rw (← q) at f)))
  nothing_else (j ∷ p) r' e by_top a q w o f = cc
  nothing_else p r' e (by_leaf {u = u} {j = j} {o = k} c) a q w o f =
      let b : component_of D top u ≡ reach D top p = ap (component_of D top) a ∙ unit_component D top p in
      let z : e ≡ at_output (j ∷ p) k = leaf_end (rw (← q) at f) (rw b at c) in
      rw (z, b, a)
  nothing_else p r' e (by_connection {u = u} {j = j} {o = k} c m) a q w o f =
      let b : component_of D top u ≡ reach D top p = ap (component_of D top) a ∙ unit_component D top p in
      let c' : class D (reach D top (j ∷ p)) ≡ built = rw b at c in
      let o' : Offers D top t x p (output_of j k) = rw (← q) at o in
      nothing_else (j ∷ p) (connection D (reach D top (j ∷ p)) k) e m (cc) (cc) (o'.1, w)
      (step_down g.placed t x p j k w c' o') (connection_end (rw (← q) at f) c')
  nothing_else [] r' e (by_argument t' j' p' s' w' a' h' m) a q w o f = cc
  nothing_else (j ∷ p) r' e (by_argument {u = u} {i = i} t' j' p' s' w' a' h' m) a q w o f =
      let o' : Offers D top t x (j ∷ p) (own i) = rw (← q) at o in
      let same = input_once g t t' (j ∷ p) (j' ∷ p') x s s' w w' (sym a ∙ a') i o'.0 o'.1 (omega arith) in
      let b = same.1 in
      let y : u ≡ unit D top p = cc in
      let z : argument D (reach D top p') j' i ≡ argument D (reach D top p) j i = cc in
      nothing_else p (argument D (reach D top p) j i) e m y z w.1 (step_up g.placed t x p j i w o') (argument_end (rw (← q) at f))

  pub alone : (p : List ℕ) (r : Source) (e : End) (v : Pin) → PathOf D top p → Offers D top t x p r → From D top p r e
      → Carries D top S x (unit D top p) r v → v ≡ pin D top e
  alone p r e v w o f c = nothing_else p r e c refl refl w o f
