-- The reader's place goes on to follow what has been entered, with each record that stands in its place.
-- Assumes nothing.
use Rattle.std.specs.Prelude.{ℕ, suc, ◌-◌, ◌<◌, ◌≡◌, refl, get_or}
use Rattle.std.proofs.Common.{ap}
use mathlib.Core.List.{List, []}
use Rattle.std.proofs.Math.ListN.{length}
use native.Mathlib.Omega.{arith}
use Rattle.timeline.specs.Design.{Component, Call, Port, Source, Class, no_call}
use Rattle.entry.specs.Lists.{add_last}
use Rattle.entry.specs.Records.{Part, input, output, instance, invocation, argument, connection}
use Rattle.entry.specs.Entered.{new, add}
use Rattle.entry.specs.Asks.{invoked, argument_count}
use Rattle.entry.specs.Asks as A
use Rattle.entry.proofs.Laws.{length_add_last, at_old, at_new, length_change_last, at_last, at_before}
use Rattle.reading.specs.Tests.{is_built}
use Rattle.reading.specs.Place.{Place, begun, moved}
use Rattle.reading.proofs.Placed.{makes_due, Stands, nothing_due}

module _ (E : List Component) (C : Component) (s : Place) (h : Stands E C s) where
  moved_input : (p : Port) → Stands E (add (input p) C) (moved s (input p) 0)
  moved_input p =
      let n = h.counts in
      let z = length_add_last C.inputs p in
      record { class = h.class; counts = omega arith; lists = h.lists; earlier = h.earlier; latest = h.latest; none_due = h.none_due; unconnected = h.unconnected }

  moved_output : (p : Port) → Stands E (add (output p) C) (moved s (output p) 0)
  moved_output p =
      let n = h.counts in
      let z = length_add_last C.outputs p in
      record { class = h.class; counts = omega arith; lists = h.lists; earlier = h.earlier; latest = h.latest; none_due = h.none_due; unconnected = h.unconnected }

  moved_instance : (m : ℕ) → A.Place E C (instance m) → Stands E (add (instance m) C) (moved s (instance m) 0)
  moved_instance m place =
      let n = h.counts in
      let z = length_add_last C.instances m in
      let e : length C.calls ≡ 0 = ap length place.1 in
      record { class = h.class; counts = omega arith; lists = h.lists; earlier = λ j l. absurd (omega arith); latest = λ j l. absurd (omega arith); none_due = h.none_due; unconnected = h.unconnected }

  moved_invocation : (v : Call) → A.Place E C (invocation v) → Stands E (add (invocation v) C) (moved s (invocation v) (makes_due E C (invocation v)))
  unfolding makes_due
  moved_invocation v place =
      let n = h.counts in
      let z = length_add_last C.calls v in
      let y = length_add_last C.arguments [] in
      let e = h.lists in
      record {
        class = h.class;
        counts = omega arith;
        lists = omega arith;
        earlier = λ j l.
            let k : j < length C.calls = omega arith in
            let m : j < length C.arguments = omega arith in
            rw (at_old [] C.arguments [] j m, at_old no_call C.calls v j k) (place.1 j k);
        latest = λ j l.
            let k : j ≡ length C.calls = omega arith in
            rw (k, at_new no_call C.calls v, ← e, at_new [] C.arguments []) (omega arith);
        none_due = λ k. absurd (omega arith);
        unconnected = λ k. place.2;
      }

  moved_argument : (x : Source) → A.Place E C (argument x) → Stands E (add (argument x) C) (moved s (argument x) 0)
  moved_argument x place =
      let n = h.counts in
      let z = length_change_last [] longer C.arguments in
      let e = h.lists in
      let m = place.1 in
      record {
        class = h.class;
        counts = omega arith;
        lists = omega arith;
        earlier = λ j l. let k : suc j < length C.arguments = omega arith in rw (at_before [] longer C.arguments j k) (h.earlier j l);
        latest = λ j l.
            let k : suc j ≡ length C.arguments = omega arith in
            let q : j ≡ length C.calls - 1 = omega arith in
            let u = h.latest j l in
            let y : argument_count E C j < length (invoked E C j).inputs = rw q place.2 in
            let a = length_add_last (get_or C.arguments j []) x in
            rw (at_last [] longer C.arguments j k) (omega arith);
        none_due = λ k. absurd (omega arith);
        unconnected = λ k. place.3;
      }
    where
      longer : List Source → List Source
      longer a = add_last a x

  moved_connection : (x : Source) → A.Place E C (connection x) → Stands E (add (connection x) C) (moved s (connection x) 0)
  moved_connection x place =
      let n = h.counts in
      let z = length_add_last C.connections x in
      record {
        class = h.class;
        counts = omega arith;
        lists = h.lists;
        earlier = h.earlier;
        latest = h.latest;
        none_due = h.none_due;
        unconnected = λ k. let y = nothing_due E C s h place.1 in absurd (omega arith);
      }

  pub still_stands : (x : Part) → A.Place E C x → Stands E (add x C) (moved s x (makes_due E C x))
  unfolding makes_due
  still_stands (input p) place = moved_input p
  still_stands (output p) place = moved_output p
  still_stands (instance n) place = moved_instance n place
  still_stands (invocation v) place = moved_invocation v place
  still_stands (argument x) place = moved_argument x place
  still_stands (connection x) place = moved_connection x place

pub begun_stands : (E : List Component) (k : Class) (d : ℕ) → Stands E (new k d) (begun (is_built k))
begun_stands E k d =
    record { class = refl; counts = omega arith; lists = refl; earlier = λ j l. absurd (omega arith); latest = λ j l. absurd (omega arith); none_due = λ e. refl; unconnected = λ l. refl }
