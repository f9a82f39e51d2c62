-- Backwards: a component that is good with a record in its place was good without it, and that record kept the rules.
-- Assumes nothing.
use Rattle.std.specs.Prelude.{ℕ, suc, ◌-◌, ◌<◌, ◌≡◌, List, [], length, get_or}
use Rattle.std.proofs.Common.{sym, ◌∙◌, arith}
use Rattle.std.proofs.Math.Decide.{ℕ_discrete}
use Rattle.timeline.specs.Design.{Component, Call, Port, Source, constant, no_port, no_call}
use Rattle.timeline.specs.Rules.{PortRange}
use Rattle.entry.specs.Lists.{add_last}
use Rattle.entry.specs.Records.{Part, input, output, instance, invocation, argument, connection, part}
use Rattle.entry.specs.Entered.{after, add}
use Rattle.entry.specs.Asks.{PartRange, call, invoked, argument_count, Place, Short, Apart, Spans, asks}
use Rattle.entry.proofs.Lists.{none_in_empty, length_add_last, at_old, at_new, length_change_last, at_last, at_before, each_less, pairs_less}
use Rattle.entry.proofs.Good.{Keeps, argument_of, Fed, Good}
use Rattle.entry.proofs.Kept.{leaf≢built, fed_off}

module _ (E : List Component) (C : Component) where
  abbrev Back : Part → Type 0
  Back x = Place E C x → Good E (add x C) → Good E C × Keeps (asks (after E C) (part x))

  back_input : (p : Port) → Back (input p)
  back_input p place g =
      let z = length_add_last C.inputs p in
      let few = g.counted in
      let h = each_less no_port (λ q. PortRange q × Short E C q) C.inputs p g.inputs in (
        record {
          delay = g.delay;
          inputs = h.0;
          outputs = g.outputs;
          instances = g.instances;
          calls = g.calls;
          arguments = λ j l. absurd (none_in_empty C.calls j place.2 l);
          connections = λ o l. absurd (none_in_empty C.connections o place.3 l);
          counted = omega arith;
          even = g.even;
          ports_only = g.ports_only;
        },
        (h.1.0, (place, (omega arith, (h.1.1, tt)))),
      )

  back_output : (p : Port) → Back (output p)
  back_output p place g =
      let z = length_add_last C.outputs p in
      let few = g.counted in
      let h = each_less no_port (λ q. PortRange q × Short E C q) C.outputs p g.outputs in (
        record {
          delay = g.delay;
          inputs = g.inputs;
          outputs = h.0;
          instances = g.instances;
          calls = g.calls;
          arguments = λ j l. absurd (none_in_empty C.calls j place.1 l);
          connections = λ o l. absurd (none_in_empty C.connections o place.2 l);
          counted = omega arith;
          even = g.even;
          ports_only = g.ports_only;
        },
        (h.1.0, (place, (omega arith, (h.1.1, tt)))),
      )

  back_instance : (n : ℕ) → Back (instance n)
  back_instance n place g =
      let z = length_add_last C.instances n in
      let few = g.counted in
      let h = each_less 0 (λ m. PartRange (instance m) × (m < length E)) C.instances n g.instances in
      let none : (j : ℕ) → j < length C.calls → ⊥ = λ j l. none_in_empty C.calls j place.1 l in (
        record {
          delay = g.delay;
          inputs = g.inputs;
          outputs = g.outputs;
          instances = h.0;
          calls = (λ j l. absurd (none j l), λ i j l. absurd (none i l), λ i j l. absurd (none i l));
          arguments = λ j l. absurd (none j l);
          connections = λ o l. absurd (none_in_empty C.connections o place.2 l);
          counted = omega arith;
          even = g.even;
          ports_only = λ e. absurd (leaf≢built e place.0);
        },
        (h.1.0, (place, (omega arith, (h.1.1, tt)))),
      )

  back_invocation : (v : Call) → Back (invocation v)
  back_invocation v place g =
      let z = length_add_last C.calls v in
      let few = g.counted in
      let h = each_less no_call (λ w. PartRange (invocation w) × (w.instance < length C.instances) × Spans E C w w) C.calls v g.calls.0 in
      let a = pairs_less no_call (Apart E C) C.calls v g.calls.1 in
      let s = pairs_less no_call (Spans E C) C.calls v g.calls.2 in (
        record {
          delay = g.delay;
          inputs = g.inputs;
          outputs = g.outputs;
          instances = g.instances;
          calls = (h.0, a.0, s.0);
          arguments = arguments;
          connections = λ o l. absurd (none_in_empty C.connections o place.2 l);
          counted = omega arith;
          even = even;
          ports_only = λ e. absurd (leaf≢built e place.0);
        },
        (h.1.0, (place, (omega arith, (h.1.1, (λ j l. (a.1 j l).0, ((h.1.2, s.1), tt)))))),
      )
    where
      even : length C.arguments ≡ length C.calls
      even = let z = length_add_last C.calls v in let y = length_add_last C.arguments [] in let e = g.even in omega arith

      arguments : (j : ℕ) → j < length C.calls → (i : ℕ) → i < argument_count E C j → Fed E C j (argument_of E C j i) (get_or (invoked E C j).inputs i no_port) (call E C j).offset
      arguments j l i h =
          let e = even in
          let b : j < length C.arguments = omega arith in
          let z = length_add_last C.calls v in
          let x = g.arguments j (omega arith) i (rw (at_old [] C.arguments [] j b) h) in
          let y = rw (at_old [] C.arguments [] j b, at_old no_call C.calls v j l) at x in
          fed_off E C v j (argument_of E C j i) _ _ (omega arith) y

  back_argument : (s : Source) → Back (argument s)
  back_argument s place g =
      let new = of_new (length C.calls - 1) (let some = place.1 in omega arith) in (
        record {
          delay = g.delay;
          inputs = g.inputs;
          outputs = g.outputs;
          instances = g.instances;
          calls = g.calls;
          arguments = λ j l i h. go j l i h (ℕ_discrete (suc j) (length C.calls));
          connections = g.connections;
          counted = let few = g.counted in omega arith;
          even = even;
          ports_only = g.ports_only;
        },
        (new.0, (place, (new.1, (new.2, (new.3, tt))))),
      )
    where
      longer : List Source → List Source
      longer a = add_last a s

      Fits : (j i : ℕ) → Source → Type 0
      Fits j i x = Fed E C j x (get_or (invoked E C j).inputs i no_port) (call E C j).offset

      even : length C.arguments ≡ length C.calls
      even = let z = length_change_last [] longer C.arguments in let e = g.even in omega arith

      of_last : (j : ℕ) → suc j ≡ length C.calls → (i : ℕ) → i < suc (argument_count E C j) → Fits j i (get_or (longer (get_or C.arguments j [])) i (constant 0))
      of_last j e i l =
          let z : suc j ≡ length C.arguments = e ∙ sym even in
          let k : i < length (longer (get_or C.arguments j [])) = let y = length_add_last (get_or C.arguments j []) s in omega arith in
          rw (at_last [] longer C.arguments j z) at (g.arguments j (omega arith) i (rw (at_last [] longer C.arguments j z) k))

      of_new : (j : ℕ) → suc j ≡ length C.calls → Fits j (argument_count E C j) s
      of_new j e = rw (at_new (constant 0) (get_or C.arguments j []) s) at (of_last j e (argument_count E C j) (omega arith))

      go : (j : ℕ) → j < length C.calls → (i : ℕ) → i < argument_count E C j → Dec (suc j ≡ length C.calls) → Fits j i (argument_of E C j i)
      go j l i h (yes e) = rw (at_old (constant 0) (get_or C.arguments j []) s i h) at (of_last j e i (omega arith))
      go j l i h (no d) =
          let z : suc j < length C.arguments = let y = even in omega arith in
          rw (at_before [] longer C.arguments j z) at (g.arguments j l i (rw (at_before [] longer C.arguments j z) h))

  back_connection : (s : Source) → Back (connection s)
  back_connection s place g =
      let z = length_add_last C.connections s in
      let new = rw (at_new (constant 0) C.connections s) at (g.connections (length C.connections) (omega arith)) in (
        record {
          delay = g.delay;
          inputs = g.inputs;
          outputs = g.outputs;
          instances = g.instances;
          calls = g.calls;
          arguments = g.arguments;
          connections = λ o l. rw (at_old (constant 0) C.connections s o l) at (g.connections o (omega arith));
          counted = let few = g.counted in omega arith;
          even = g.even;
          ports_only = λ e. absurd (leaf≢built e place.0);
        },
        (new.0, (place, (new.1, (new.2, (new.3, tt))))),
      )

  pub back : (x : Part) → Place E C x → Good E (add x C) → Good E C × Keeps (asks (after E C) (part x))
  back (input p) place g = back_input p place g
  back (output p) place g = back_output p place g
  back (instance n) place g = back_instance n place g
  back (invocation v) place g = back_invocation v place g
  back (argument s) place g = back_argument s place g
  back (connection s) place g = back_connection s place g
