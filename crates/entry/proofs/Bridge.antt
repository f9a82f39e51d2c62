-- The rules over "the components before, and this one" are those of one component of a design, as document 01 says them by numbers.
-- Both look the invoked component up: among those before, and in the whole design. It is the same one, as every instance is of a lower component.
-- Assumes nothing.
use Rattle.std.specs.Prelude.{ℕ, ◌+◌, ◌≤◌, ◌<◌, ◌≡◌, refl, List, ◌↔◌, take}
use Rattle.std.proofs.Math.Path.{ap}
use Rattle.std.proofs.Math.ListN.{length}
use Rattle.std.proofs.Common.{length-take-le}
use Rattle.std.proofs.Math.Seq.{get_or-take}
use native.Mathlib.Omega.{arith}
use Rattle.std.proofs.Math.Decide.{ℕ_discrete}
use Rattle.timeline.specs.Design.{Design, Component, Port, Source, own, output_of, constant, no_component, component, class, delay, input_count, output_count, instance_count, invocation_count, argument_count, connection_count, input, output, made_of, call, instance, invoked, offset, argument, connection, takes, gives}
use Rattle.timeline.specs.Rules.{SourceRange, There, Wide, Ready, Ranges, Whole, Counts, Rules, Lawful}
use Rattle.entry.specs.Asks as A
use Rattle.entry.proofs.Lists.{empty_of_length}
use Rattle.entry.proofs.Good.{Fed, Good, AllFinished}

module _ (D : Design) (c : ℕ) (present : c < length D) where
  abbrev E : List Component
  E = take c D

  abbrev C : Component
  C = component D c

  -- All that the design's rules ask of a source.
  abbrev SoundSource : ℕ → Source → Port → ℕ → Type 0
  SoundSource n s q k = SourceRange s × There D c n s × Wide D c s q × Ready D c s q k

  before : length E ≡ c
  before = length-take-le c D (omega arith)

  abbrev Lower : Type 0
  Lower = (j : ℕ) → j < invocation_count D c → invoked D c j < c

  module _ (lower : Lower) where
    same : (j : ℕ) → j < invocation_count D c → A.invoked E C j ≡ component D (invoked D c j)
    unfolding component invoked made_of instance call
    same j l = get_or-take c D (invoked D c j) no_component (lower j l)

    same_takes : (j : ℕ) → j < invocation_count D c → A.takes E C (A.call E C j) ≡ takes D c j
    unfolding takes delay
    same_takes j l = ap (λ B. B.delay) (same j l)

    fed_to : (n : ℕ) (s : Source) (q : Port) (k : ℕ) → n ≤ invocation_count D c → SoundSource n s q k → Fed E C n s q k
    unfolding input_count output_count input output gives offset call
    fed_to n (own i) q k l h = h
    fed_to n (output_of j o) q k l (r, (m, p, t), w, a) = rw (same j p) (r, (m, t), w, a)
    fed_to n (constant v) q k l h = h

    fed_from : (n : ℕ) (s : Source) (q : Port) (k : ℕ) → n ≤ invocation_count D c → Fed E C n s q k → SoundSource n s q k
    unfolding input_count output_count input output gives offset call
    fed_from n (own i) q k l h = h
    fed_from n (output_of j o) q k l h =
        let p : j < invocation_count D c = let z = h.1.0 in omega arith in
        let g = rw (same j p) at h in
        (g.0, (g.1.0, p, g.1.1), g.2, g.3)
    fed_from n (constant v) q k l h = h

  module _ (r : Rules D c) where
    lower_to : Lower
    unfolding invoked
    lower_to j l = r.references.lower (instance D c j) (r.references.named j l)

    good_to : Ranges D c → Whole D c → Counts D c → Good E C
    unfolding component class delay input_count output_count instance_count invocation_count argument_count connection_count input output made_of call instance offset argument connection takes
    good_to range whole few =
        record {
          delay = (range.delay_some, range.delay_most);
          inputs = λ i l. (range.input_range i l, r.intervals.input_interval i l);
          outputs = λ o l. (range.output_range o l, r.intervals.output_interval o l);
          instances = λ n l. (range.instance_range n l, rw before (r.references.lower n l));
          calls = (
            λ j l. (range.invocation_range j l, r.references.named j l, rw (same_takes lower_to j l) (r.span j l j l)),
            λ i j l k n e. rw (same_takes lower_to i l, same_takes lower_to j k) (r.spacing i l j k e n),
            λ i j l k n e. rw (same_takes lower_to j k) (r.span i l j k e),
          );
          arguments = λ j l i k. rw (same lower_to j l) (
              fed_to lower_to j (argument D c j i) (input D (invoked D c j) i) (offset D c j) (omega arith)
              (range.argument_range j l i k, r.references.argument_there j l i k, r.widths.argument_wide j l i k, r.reading.argument_ready j l i k));
          connections = λ o l.
              fed_to lower_to (invocation_count D c) (connection D c o) (output D c o) 0 (omega arith)
              (range.connection_range o l, r.references.connection_there o l, r.widths.connection_wide o l, r.reading.connection_ready o l);
          counted = record { few_inputs = few.few_inputs; few_outputs = few.few_outputs; few_instances = few.few_instances; few_calls = few.few_invocations };
          even = whole.argument_lists;
          ports_only = λ e. (
            empty_of_length C.instances (whole.leaf_instances e),
            empty_of_length C.calls (whole.leaf_invocations e),
            empty_of_length C.connections (whole.leaf_connections e),
          );
        }

    complete_to : Whole D c → A.Complete E C
    unfolding class input_count output_count invocation_count argument_count connection_count
    complete_to whole = (λ j l. rw (same lower_to j l) (whole.all_arguments j l), whole.all_connections)

  module _ (g : Good E C) where
    lower_from : Lower
    unfolding invoked made_of instance call invocation_count instance_count
    lower_from j l = let z = (g.instances (instance D c j) (g.calls.0 j l).1).1 in let y = before in omega arith

    argument_from : (j : ℕ) → j < invocation_count D c → (i : ℕ) → i < argument_count D c j → SoundSource j (argument D c j i) (input D (invoked D c j) i) (offset D c j)
    unfolding component invocation_count argument_count input offset call argument
    argument_from j l i k = fed_from lower_from j (argument D c j i) (input D (invoked D c j) i) (offset D c j) (omega arith) (rw (same lower_from j l) at (g.arguments j l i k))

    connection_from : (o : ℕ) → o < connection_count D c → SoundSource (invocation_count D c) (connection D c o) (output D c o) 0
    unfolding component invocation_count connection_count output connection
    connection_from o l = fed_from lower_from (invocation_count D c) (connection D c o) (output D c o) 0 (omega arith) (g.connections o l)

    rules_from : Rules D c
    unfolding component class delay input_count output_count instance_count invocation_count argument_count connection_count input output made_of call instance offset argument connection takes
    rules_from =
        record {
          references = record {
            lower = λ n l. rw before at (g.instances n l).1;
            named = λ j l. (g.calls.0 j l).1;
            argument_there = λ j l i k. (argument_from j l i k).1;
            connection_there = λ o l. (connection_from o l).1;
          };
          widths = record { argument_wide = λ j l i k. (argument_from j l i k).2; connection_wide = λ o l. (connection_from o l).2 };
          intervals = record { input_interval = λ i l. (g.inputs i l).1; output_interval = λ o l. (g.outputs o l).1 };
          spacing = λ i l j k e n. rw (same_takes lower_from i l, same_takes lower_from j k) at (g.calls.1 i j l k n e);
          span = λ i l j k e. span i j l k e (ℕ_discrete i j);
          reading = record { argument_ready = λ j l i k. (argument_from j l i k).3; connection_ready = λ o l. (connection_from o l).3 };
        }
      where
        span : (i j : ℕ) → i < invocation_count D c → j < invocation_count D c → instance D c i ≡ instance D c j → Dec (i ≡ j) → offset D c j + takes D c j ≤ offset D c i + delay D c
        span i j l k e (yes q) = rw q (rw (same_takes lower_from j k) at ((g.calls.0 j k).2 refl))
        span i j l k e (no n) = rw (same_takes lower_from j k) at (g.calls.2 i j l k n e)

    ranges_from : Ranges D c
    unfolding component class delay input_count output_count instance_count invocation_count argument_count connection_count input output made_of call instance offset argument connection
    ranges_from =
        record {
          delay_some = g.delay.0;
          delay_most = g.delay.1;
          input_range = λ i l. (g.inputs i l).0;
          output_range = λ o l. (g.outputs o l).0;
          instance_range = λ n l. (g.instances n l).0;
          invocation_range = λ j l. (g.calls.0 j l).0;
          argument_range = λ j l i k. (argument_from j l i k).0;
          connection_range = λ o l. (connection_from o l).0;
        }

    counts_from : Counts D c
    unfolding input_count output_count instance_count invocation_count
    counts_from = record { few_inputs = g.counted.few_inputs; few_outputs = g.counted.few_outputs; few_instances = g.counted.few_instances; few_invocations = g.counted.few_calls }

    whole_from : A.Complete E C → Whole D c
    unfolding class input_count output_count instance_count invocation_count argument_count connection_count
    whole_from complete =
        record {
          all_arguments = λ j l. rw (same lower_from j l) at (complete.0 j l);
          all_connections = complete.1;
          leaf_instances = λ e. ap length (g.ports_only e).0;
          leaf_invocations = λ e. ap length (g.ports_only e).1;
          leaf_connections = λ e. ap length (g.ports_only e).2;
          argument_lists = g.even;
        }

pub finished_lawful : (D : Design) → AllFinished D ↔ Lawful D
unfolding component
finished_lawful D = (
  λ h. record {
    some = h.some;
    few = h.few;
    ranges = λ c l. ranges_from D c l (h.each c l).0;
    whole = λ c l. whole_from D c l (h.each c l).0 (h.each c l).1;
    counts = λ c l. counts_from D c l (h.each c l).0;
    rules = λ c l. rules_from D c l (h.each c l).0;
  },
  λ h. record {
    each = λ c l. (good_to D c l (h.rules c l) (h.ranges c l) (h.whole c l) (h.counts c l), complete_to D c l (h.rules c l) (h.whole c l));
    some = h.some;
    few = h.few;
  },
)
