-- The reader's place follows what has been entered, so that it decides rule 5.
-- Assumes nothing.
use Rattle.std.specs.Prelude.{ℕ, suc, ◌+◌, ◌-◌, ◌<◌, ◌≡◌, List, [], length, eqb, ltb}
use Rattle.std.proofs.Common.{arith}
use Rattle.std.proofs.Math.Decide.{ℕ_discrete}
use Rattle.timeline.specs.Design.{Component}
use Rattle.entry.specs.Records.{Part, input, output, instance, invocation, argument, connection}
use Rattle.entry.specs.Asks.{made_of, invoked, argument_count, last, AllArguments, Complete}
use Rattle.entry.specs.Asks as A
use Rattle.reading.specs.Tests.{Means, means_as, means_both, means_three, means_four, means_if, means_equal, means_below, means_none, is_built, means_built}
use Rattle.reading.specs.Place.{Place, may, may_end}

-- How many arguments a record makes due.
unfoldable pub makes_due : List Component → Component → Part → ℕ
makes_due E C (input p) = 0
makes_due E C (output p) = 0
makes_due E C (instance n) = 0
makes_due E C (invocation v) = length (made_of E C v.instance).inputs
makes_due E C (argument x) = 0
makes_due E C (connection x) = 0

pub record Counted (C : Component) (s : Place) : Type 0 where
  pub inputs : s.inputs ≡ length C.inputs
  pub outputs : s.outputs ≡ length C.outputs
  pub instances : s.instances ≡ length C.instances
  pub invocations : s.invocations ≡ length C.calls
  pub connections : s.connections ≡ length C.connections

module _ (E : List Component) where
  -- s is the place after what has been entered of C: all invocations but the last have their arguments, and the last lacks those that are due.
  pub record Stands (C : Component) (s : Place) : Type 0 where
    pub class : s.built ≡ is_built C.class
    pub counts : Counted C s
    pub lists : length C.arguments ≡ length C.calls
    pub earlier : (j : ℕ) → suc j < length C.calls → argument_count E C j ≡ length (invoked E C j).inputs
    pub latest : (j : ℕ) → suc j ≡ length C.calls → argument_count E C j + s.due ≡ length (invoked E C j).inputs
    pub none_due : length C.calls ≡ 0 → s.due ≡ 0
    pub unconnected : 0 < s.due → C.connections ≡ []

  module _ (C : Component) (s : Place) (h : Stands C s) where
    all_arguments : s.due ≡ 0 → AllArguments E C
    all_arguments z j l = go (ℕ_discrete (suc j) (length C.calls))
      where
        go : Dec (suc j ≡ length C.calls) → argument_count E C j ≡ length (invoked E C j).inputs
        go (yes e) = let y = h.latest j e in omega arith
        go (no n) = h.earlier j (omega arith)

    pub nothing_due : AllArguments E C → s.due ≡ 0
    nothing_due f = go (ℕ_discrete (length C.calls) 0)
      where
        go : Dec (length C.calls ≡ 0) → s.due ≡ 0
        go (yes e) = h.none_due e
        go (no n) =
            let j = length C.calls - 1 in
            let y = h.latest j (omega arith) in
            let z = f j (omega arith) in
            omega arith

    means_all_arguments : Means (eqb s.due 0) (AllArguments E C)
    means_all_arguments = means_as all_arguments nothing_due (means_equal s.due 0)

    means_due : Means (ltb 0 s.due) ((0 < length C.calls) × (argument_count E C (last E C) < length (invoked E C (last E C)).inputs) × (C.connections ≡ []))
    means_due = means_as to from (means_below 0 s.due)
      where
        some : Dec (length C.calls ≡ 0) → 0 < s.due → 0 < length C.calls
        some (yes e) d = let z = h.none_due e in absurd (omega arith)
        some (no n) d = omega arith

        to : 0 < s.due → (0 < length C.calls) × (argument_count E C (last E C) < length (invoked E C (last E C)).inputs) × (C.connections ≡ [])
        to d =
            let m : 0 < length C.calls = some (ℕ_discrete (length C.calls) 0) d in
            let y = h.latest (last E C) (omega arith) in
            (m, omega arith, h.unconnected d)

        from : (0 < length C.calls) × (argument_count E C (last E C) < length (invoked E C (last E C)).inputs) × (C.connections ≡ []) → 0 < s.due
        from (m, l, e) = let y = h.latest (last E C) (omega arith) in omega arith

    pub means_place : (x : Part) → Means (may s x) (A.Place E C x)
    means_place (input p) = means_four (means_none _ _ h.counts.outputs) (means_none _ _ h.counts.instances) (means_none _ _ h.counts.invocations) (means_none _ _ h.counts.connections)
    means_place (output p) = means_three (means_none _ _ h.counts.instances) (means_none _ _ h.counts.invocations) (means_none _ _ h.counts.connections)
    means_place (instance n) = means_three (means_built _ _ h.class) (means_none _ _ h.counts.invocations) (means_none _ _ h.counts.connections)
    means_place (invocation v) = means_three (means_built _ _ h.class) means_all_arguments (means_none _ _ h.counts.connections)
    means_place (argument x) = means_as (λ w. (w.0, w.1.0, w.1.1, w.1.2)) (λ w. (w.0, (w.1, w.2, w.3))) (means_both (means_built _ _ h.class) means_due)
    means_place (connection x) = means_three (means_built _ _ h.class) means_all_arguments lacking
      where
        lacking : Means (ltb s.connections s.outputs) (length C.connections < length C.outputs)
        lacking = rw (h.counts.connections, h.counts.outputs) (means_below (length C.connections) (length C.outputs))

    pub means_complete : Means (may_end s) (Complete E C)
    means_complete = means_both means_all_arguments (means_if (means_built _ _ h.class) even)
      where
        even : Means (eqb s.connections s.outputs) (length C.connections ≡ length C.outputs)
        even = rw (h.counts.connections, h.counts.outputs) (means_equal (length C.connections) (length C.outputs))
