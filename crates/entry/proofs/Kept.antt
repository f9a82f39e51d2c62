-- Forwards: a component that is good stays good with one more record that keeps the rules.
-- Assumes nothing.
use Rattle.std.specs.Prelude.{ℕ, suc, ◌-◌, ◌≤◌, ◌<◌, ◌≡◌, refl, List, [], length, get_or}
use Rattle.std.proofs.Common.{sym, ◌∙◌, arith}
use Rattle.std.proofs.Math.Logic.{⊎_swap}
use Rattle.std.proofs.Math.Decide.{ℕ_discrete}
use Rattle.timeline.specs.Design.{Component, Call, Port, Source, own, output_of, constant, Class, leaf, built, no_port, no_call}
use Rattle.timeline.specs.Rules.{PortRange}
use Rattle.entry.specs.Lists.{add_last, change_last}
use Rattle.entry.specs.Records.{Part, input, output, instance, invocation, argument, connection, component, part}
use Rattle.entry.specs.Entered.{after, new, add}
use Rattle.entry.specs.Asks.{InRange, PartRange, call, invoked, argument_count, Short, Apart, Spans, asks}
use Rattle.entry.proofs.Lists.{none_in_empty, length_add_last, at_old, at_new, length_change_last, at_last, at_before, each_more, pairs_more}
use Rattle.entry.proofs.Good.{Keeps, argument_of, Fed, Good}

pub leaf≢built : {k : Class} → k ≡ leaf → k ≡ built → ⊥
leaf≢built e f = let z : ◌≡◌ {A = ℕ} 0 1 = cc in omega arith

module _ (E : List Component) (C : Component) where
  pub apart_both : (v w : Call) → Apart E C v w → Apart E C v w × Apart E C w v
  apart_both v w h = (h, λ e. ⊎_swap (h (sym e)))

  -- A source of earlier invocations is fed alike before and after one more call.
  pub fed_on : (v : Call) (n : ℕ) (s : Source) (q : Port) (k : ℕ) → n ≤ length C.calls → Fed E C n s q k → Fed E (add (invocation v) C) n s q k
  fed_on v n (own i) q k l h = h
  fed_on v n (output_of j o) q k l h = let m : j < length C.calls = let z = h.1.0 in omega arith in rw (at_old no_call C.calls v j m) h
  fed_on v n (constant x) q k l h = h

  pub fed_off : (v : Call) (n : ℕ) (s : Source) (q : Port) (k : ℕ) → n ≤ length C.calls → Fed E (add (invocation v) C) n s q k → Fed E C n s q k
  fed_off v n (own i) q k l h = h
  fed_off v n (output_of j o) q k l h = let m : j < length C.calls = let z = h.1.0 in omega arith in rw (at_old no_call C.calls v j m) at h
  fed_off v n (constant x) q k l h = h

module _ (E : List Component) (C : Component) (g : Good E C) where
  abbrev Kept : Part → Type 0
  Kept x = Keeps (asks (after E C) (part x)) → Good E (add x C)

  kept_input : (p : Port) → Kept (input p)
  kept_input p (range, (place, (few, (short, _)))) =
      let z = length_add_last C.inputs p in
      record {
        delay = g.delay;
        inputs = each_more no_port (λ q. PortRange q × Short E C q) C.inputs p g.inputs (range, short);
        outputs = g.outputs;
        instances = g.instances;
        calls = g.calls;
        arguments = λ j l. absurd (none_in_empty C.calls j place.2 l);
        connections = λ o l. absurd (none_in_empty C.connections o place.3 l);
        counted = omega arith;
        even = g.even;
        ports_only = g.ports_only;
      }

  kept_output : (p : Port) → Kept (output p)
  kept_output p (range, (place, (few, (short, _)))) =
      let z = length_add_last C.outputs p in
      record {
        delay = g.delay;
        inputs = g.inputs;
        outputs = each_more no_port (λ q. PortRange q × Short E C q) C.outputs p g.outputs (range, short);
        instances = g.instances;
        calls = g.calls;
        arguments = λ j l. absurd (none_in_empty C.calls j place.1 l);
        connections = λ o l. absurd (none_in_empty C.connections o place.2 l);
        counted = omega arith;
        even = g.even;
        ports_only = g.ports_only;
      }

  kept_instance : (n : ℕ) → Kept (instance n)
  kept_instance n (range, (place, (few, (lower, _)))) =
      let z = length_add_last C.instances n in
      let none : (j : ℕ) → j < length C.calls → ⊥ = λ j l. none_in_empty C.calls j place.1 l in
      record {
        delay = g.delay;
        inputs = g.inputs;
        outputs = g.outputs;
        instances = each_more 0 (λ m. PartRange (instance m) × (m < length E)) C.instances n g.instances (range, lower);
        calls = (λ j l. absurd (none j l), λ i j l. absurd (none i l), λ i j l. absurd (none i l));
        arguments = λ j l. absurd (none j l);
        connections = λ o l. absurd (none_in_empty C.connections o place.2 l);
        counted = omega arith;
        even = g.even;
        ports_only = λ e. absurd (leaf≢built e place.0);
      }

  kept_invocation : (v : Call) → Kept (invocation v)
  kept_invocation v (range, (place, (few, (named, (apart, (spans, _)))))) =
      let z = length_add_last C.calls v in
      record {
        delay = g.delay;
        inputs = g.inputs;
        outputs = g.outputs;
        instances = g.instances;
        calls = (
          each_more no_call (λ w. PartRange (invocation w) × (w.instance < length C.instances) × Spans E C w w) C.calls v g.calls.0 (range, named, spans.0),
          pairs_more no_call (Apart E C) C.calls v g.calls.1 (λ j l. apart_both E C (call E C j) v (apart j l)),
          pairs_more no_call (Spans E C) C.calls v g.calls.2 spans.1,
        );
        arguments = λ j l i h. go j l i h (ℕ_discrete j (length C.calls));
        connections = λ o l. absurd (none_in_empty C.connections o place.2 l);
        counted = omega arith;
        even = cc (length_add_last C.calls v, length_add_last C.arguments [], g.even);
        ports_only = λ e. absurd (leaf≢built e place.0);
      }
    where
      C' : Component
      C' = add (invocation v) C

      -- The new invocation has no arguments yet; the others have theirs as before.
      go : (j : ℕ) → j < length (add_last C.calls v) → (i : ℕ) → i < argument_count E C' j → Dec (j ≡ length C.calls)
          → Fed E C' j (argument_of E C' j i) (get_or (invoked E C' j).inputs i no_port) (call E C' j).offset
      go j l i h (yes e) =
          let z : j ≡ length C.arguments = e ∙ sym g.even in
          let y = rw (z, at_new [] C.arguments []) at h in
          absurd (omega arith)
      go j l i h (no d) =
          let a : j < length C.calls = let z = length_add_last C.calls v in omega arith in
          let b : j < length C.arguments = let z = g.even in omega arith in
          let x = g.arguments j a i (rw (at_old [] C.arguments [] j b) at h) in
          rw (at_old [] C.arguments [] j b, at_old no_call C.calls v j a) (fed_on E C v j (argument_of E C j i) _ _ (omega arith) x)

  kept_argument : (s : Source) → Kept (argument s)
  kept_argument s (range, (place, (there, (wide, (ready, _))))) =
      record {
        delay = g.delay;
        inputs = g.inputs;
        outputs = g.outputs;
        instances = g.instances;
        calls = g.calls;
        arguments = λ j l i h. go j l i h (ℕ_discrete (suc j) (length C.calls));
        connections = g.connections;
        counted = let n = g.counted in omega arith;
        even = cc (length_change_last [] (λ a. add_last a s) C.arguments, g.even);
        ports_only = g.ports_only;
      }
    where
      longer : List Source → List Source
      longer a = add_last a s

      Fits : (j i : ℕ) → Source → Type 0
      Fits j i x = Fed E C j x (get_or (invoked E C j).inputs i no_port) (call E C j).offset

      -- The last invocation has one argument more.
      of_last : (j i : ℕ) → suc j ≡ length C.calls → i < length (longer (get_or C.arguments j [])) → Dec (i ≡ argument_count E C j) → Fits j i (get_or (longer (get_or C.arguments j [])) i (constant 0))
      of_last j i e l (yes q) =
          let z : j ≡ length C.calls - 1 = omega arith in
          rw (q, at_new (constant 0) (get_or C.arguments j []) s, z) (range, there, wide, ready)
      of_last j i e l (no d) =
          let k : i < argument_count E C j = let z = length_add_last (get_or C.arguments j []) s in omega arith in
          rw (at_old (constant 0) (get_or C.arguments j []) s i k) (g.arguments j (omega arith) i k)

      go : (j : ℕ) → j < length C.calls → (i : ℕ) → i < length (get_or (change_last longer C.arguments) j []) → Dec (suc j ≡ length C.calls) → Fits j i (get_or (get_or (change_last longer C.arguments) j []) i (constant 0))
      go j l i h (yes e) =
          let z : suc j ≡ length C.arguments = e ∙ sym g.even in
          rw (at_last [] longer C.arguments j z) (of_last j i e (rw (at_last [] longer C.arguments j z) at h) (ℕ_discrete i (argument_count E C j)))
      go j l i h (no d) =
          let z : suc j < length C.arguments = let y = g.even in omega arith in
          rw (at_before [] longer C.arguments j z) (g.arguments j l i (rw (at_before [] longer C.arguments j z) at h))

  kept_connection : (s : Source) → Kept (connection s)
  kept_connection s (range, (place, (there, (wide, (ready, _))))) =
      record {
        delay = g.delay;
        inputs = g.inputs;
        outputs = g.outputs;
        instances = g.instances;
        calls = g.calls;
        arguments = g.arguments;
        connections = λ o l. go o l (ℕ_discrete o (length C.connections));
        counted = let n = g.counted in omega arith;
        even = g.even;
        ports_only = λ e. absurd (leaf≢built e place.0);
      }
    where
      go : (o : ℕ) → o < length (add_last C.connections s) → Dec (o ≡ length C.connections)
          → Fed E C (length C.calls) (get_or (add_last C.connections s) o (constant 0)) (get_or C.outputs o no_port) 0
      go o l (yes e) = rw (e, at_new (constant 0) C.connections s) (range, there, wide, ready)
      go o l (no m) =
          let k : o < length C.connections = let z = length_add_last C.connections s in omega arith in
          rw (at_old (constant 0) C.connections s o k) (g.connections o k)

  pub kept : (x : Part) → Keeps (asks (after E C) (part x)) → Good E (add x C)
  kept (input p) n = kept_input p n
  kept (output p) n = kept_output p n
  kept (instance m) n = kept_instance m n
  kept (invocation v) n = kept_invocation v n
  kept (argument s) n = kept_argument s n
  kept (connection s) n = kept_connection s n

-- A component of which only its first record is entered.
pub new_good : (E : List Component) (k : Class) (d : ℕ) → InRange (component k d) → Good E (new k d)
new_good E k d range =
    record {
      delay = range;
      inputs = λ i l. absurd (omega arith);
      outputs = λ o l. absurd (omega arith);
      instances = λ n l. absurd (omega arith);
      calls = (λ j l. absurd (omega arith), λ i j l. absurd (omega arith), λ i j l. absurd (omega arith));
      arguments = λ j l. absurd (omega arith);
      connections = λ o l. absurd (omega arith);
      counted = omega arith;
      even = refl;
      ports_only = λ e. (refl, refl, refl);
    }
