-- The records of a design of which nothing is missing stand each in its place.
-- Assumes nothing.
use Rattle.std.specs.Prelude.{ℕ, ◌+◌, ◌-◌, ◌≤◌, ◌<◌, ◌≡◌}
use Rattle.std.proofs.Math.Path.{refl}
use mathlib.Core.List.{List, [], ◌∷◌, ◌++◌, map}
use Rattle.std.proofs.Math.ListN.{length, length-append, get_or-append}
use Rattle.std.proofs.Math.Seq.{get_or-append_seam}
use native.Mathlib.Omega.{arith}
use Rattle.std.proofs.Math.Decide.{ℕ_discrete}
use Rattle.timeline.specs.Design.{Design, Component, Call, Port, Source, Class, leaf, built, no_call}
use Rattle.entry.specs.Lists.{add_last}
use Rattle.entry.specs.Records.{input, output, instance, argument, connection, Record, wrong, component, part, invocations, parts, records}
use Rattle.entry.specs.Entered.{Entered, nothing, after, new, enter, enter_all}
use Rattle.entry.specs.Asks.{made_of, AllArguments, Complete, Place}
use Rattle.entry.proofs.Lists.{none_in_empty, length_add_last, add_last_append, change_last_add_last, at_new}
use Rattle.entry.proofs.Good.{Even, PortsOnly}
use Rattle.entry.proofs.Rebuilt.{made, enter_inputs, enter_outputs, enter_instances, with_calls, enter_arguments, enter_invocations, enter_parts, Chain}

-- The record is allowed at this place.
abbrev pub Allowed : Entered → Record → Type 0
Allowed nothing wrong = ⊥
Allowed nothing (component k d) = Unit
Allowed nothing (part x) = ⊥
Allowed (after E C) wrong = ⊥
Allowed (after E C) (component k d) = Complete E C
Allowed (after E C) (part x) = Place E C x

unfoldable pub Placed : Entered → List Record → Type 0
Placed e [] = Unit
Placed e (r ∷ rs) = Allowed e r × Placed (enter e r) rs

placed_both : (e f : Entered) (xs ys : List Record) → Placed e xs → enter_all e xs ≡ f → Placed f ys → Placed e (xs ++ ys)
unfolding Placed enter_all
placed_both e f [] ys u h v = rw h v
placed_both e f (x ∷ xs) ys u h v = (u.0, placed_both (enter e x) f xs ys u.1 h v)

module _ (E : List Component) (k : Class) (d : ℕ) where
  placed_inputs : (done more : List Port) → Placed (after E (made k d done [] [] [] [] [])) (map (λ p. part (input p)) more)
  unfolding Placed
  placed_inputs done [] = tt
  placed_inputs done (p ∷ more) = ((refl, refl, refl, refl), placed_inputs (add_last done p) more)

  module _ (inputs : List Port) where
    placed_outputs : (done more : List Port) → Placed (after E (made k d inputs done [] [] [] [])) (map (λ p. part (output p)) more)
    unfolding Placed
    placed_outputs done [] = tt
    placed_outputs done (p ∷ more) = ((refl, refl, refl), placed_outputs (add_last done p) more)

    module _ (outputs : List Port) where
      placed_instances : (done more : List ℕ) → (0 < length more → k ≡ built) → Placed (after E (made k d inputs outputs done [] [] [])) (map (λ n. part (instance n)) more)
      unfolding Placed
      placed_instances done [] b = tt
      placed_instances done (n ∷ more) b = ((b (omega arith), refl, refl), placed_instances (add_last done n) more (λ l. b (omega arith)))

      module _ (instances : List ℕ) where
        abbrev component_with : List Call → List (List Source) → List Source → Component
        component_with calls lists connections = with_calls E k d inputs outputs instances calls lists connections

        -- How many inputs the component has that a call invokes.
        abbrev inputs_of : Call → ℕ
        inputs_of v = length (made_of E (component_with [] [] []) v.instance).inputs

        placed_arguments : (calls : List Call) (lists : List (List Source)) (v : Call) (done more : List Source) → k ≡ built → length lists ≡ length calls → length done + length more ≡ inputs_of v
            → Placed (after E (component_with (add_last calls v) (add_last lists done) [])) (map (λ s. part (argument s)) more)
        unfolding Placed
        placed_arguments calls lists v done [] b e l = tt
        placed_arguments calls lists v done (s ∷ more) b e l =
            (place, rw (change_last_add_last (λ a. add_last a s) lists done) (placed_arguments calls lists v (add_last done s) more b e (let z = length_add_last done s in omega arith)))
          where
            last : length (add_last calls v) - 1 ≡ length calls
            last = let z = length_add_last calls v in omega arith

            place : Place E (component_with (add_last calls v) (add_last lists done) []) (argument s)
            place = (
              b,
              (let z = length_add_last calls v in omega arith),
              rw (last, at_new no_call calls v, ← e, at_new [] lists done) (omega arith),
              refl,
            )

        -- If all invocations have all their arguments, the first ones have theirs.
        all_of_first : (done more : List Call) (lists later : List (List Source)) → length lists ≡ length done → AllArguments E (component_with (done ++ more) (lists ++ later) []) → AllArguments E (component_with done lists [])
        all_of_first done more lists later e h j l =
            let z = length-append done more in
            rw (get_or-append done more no_call j l, get_or-append lists later [] j (omega arith)) at (h j (omega arith))

        placed_invocations : (done more : List Call) (lists later : List (List Source)) → (0 < length more → k ≡ built) → length lists ≡ length done → length later ≡ length more
            → AllArguments E (component_with (done ++ more) (lists ++ later) []) → Placed (after E (component_with done lists [])) (invocations more later)
        unfolding Placed invocations
        placed_invocations done [] lists [] b e f h = tt
        placed_invocations done [] lists (a ∷ later) b e f h = absurd (omega arith)
        placed_invocations done (v ∷ more) lists [] b e f h = absurd (omega arith)
        placed_invocations done (v ∷ more) lists (a ∷ later) b e f h =
            let c = b (omega arith) in
            let x = length_add_last done v in
            let y = length_add_last lists a in
            let g = placed_invocations (add_last done v) more (add_last lists a) later (λ l. c) (omega arith) (omega arith) (rw (add_last_append done v more, add_last_append lists a later) h) in (
              (c, all_of_first done (v ∷ more) lists (a ∷ later) e h, refl),
              placed_both _ _ _ _ (placed_arguments done lists v [] a c e all) (enter_arguments E k d inputs outputs instances (add_last done v) lists [] a) g,
            )
          where
            all : 0 + length a ≡ inputs_of v
            all =
                let z = length-append done (v ∷ more) in
                let y = rw (get_or-append_seam done v more no_call, ← e, get_or-append_seam lists a later []) at (h (length done) (omega arith)) in
                omega arith

        placed_connections : (calls : List Call) (lists : List (List Source)) (done more : List Source) → (0 < length more → k ≡ built) → AllArguments E (component_with calls lists []) → length done + length more ≤ length outputs
            → Placed (after E (component_with calls lists done)) (map (λ s. part (connection s)) more)
        unfolding Placed
        placed_connections calls lists done [] b h l = tt
        placed_connections calls lists done (s ∷ more) b h l =
            ((b (omega arith), h, omega arith), placed_connections calls lists (add_last done s) more (λ l. b (omega arith)) h (let z = length_add_last done s in omega arith))

-- What a leaf has none of, only a built component has.
only_built : {A : Type 0} (k : Class) (xs : List A) → (k ≡ leaf → xs ≡ []) → 0 < length xs → k ≡ built
only_built leaf xs h l = absurd (none_in_empty xs 0 (h refl) l)
only_built built xs h l = refl

module _ (E : List Component) (C : Component) where
  -- Nothing is missing, one list of arguments for each call, and a leaf has ports only.
  abbrev pub Whole : Type 0
  Whole = Complete E C × Even E C × PortsOnly E C

  pub placed_parts : Whole → Placed (after E (new C.class C.delay)) (parts C)
  unfolding parts
  placed_parts (complete, even, ports) =
      placed_both _ _ _ _ (placed_inputs E k d [] C.inputs) (enter_inputs E k d [] C.inputs)
      (placed_both _ _ _ _ (placed_outputs E k d C.inputs [] C.outputs) (enter_outputs E k d C.inputs [] C.outputs)
      (placed_both _ _ _ _ (placed_instances E k d C.inputs C.outputs [] C.instances (only_built k C.instances (λ e. (ports e).0))) (enter_instances E k d C.inputs C.outputs [] C.instances)
      (placed_both _ _ _ _ (placed_invocations E k d C.inputs C.outputs C.instances [] C.calls [] C.arguments (only_built k C.calls (λ e. (ports e).1)) refl even complete.0) (enter_invocations E k d C.inputs C.outputs C.instances [] C.calls [] C.arguments even)
      (placed_connections E k d C.inputs C.outputs C.instances C.calls C.arguments [] C.connections connected complete.0 (few (ℕ_discrete (length C.connections) 0))))))
    where
      k : Class
      k = C.class

      d : ℕ
      d = C.delay

      connected : 0 < length C.connections → C.class ≡ built
      connected = only_built C.class C.connections (λ e. (ports e).2)

      few : Dec (length C.connections ≡ 0) → 0 + length C.connections ≤ length C.outputs
      few (yes e) = omega arith
      few (no n) = let z = complete.1 (connected (omega arith)) in omega arith

placed_later : (E : List Component) (C : Component) (D : Design) → Complete E C → Chain Whole (add_last E C) D → Placed (after E C) (records D)
unfolding Chain records Placed
placed_later E C [] w c = tt
placed_later E C (B ∷ D) w c =
    let u = c.0 in
    (w, placed_both _ _ (parts B) (records D) (placed_parts (add_last E C) B u) (enter_parts (add_last E C) B u.1) (placed_later (add_last E C) B D u.0 c.1))

pub placed_records : (D : Design) → Chain Whole [] D → Placed nothing (records D)
unfolding Chain records Placed add_last
placed_records [] c = tt
placed_records (C ∷ D) c =
    let u = c.0 in
    (tt, placed_both _ _ (parts C) (records D) (placed_parts [] C u) (enter_parts [] C u.1) (placed_later [] C D u.0 c.1))
