-- A reader that fits, and has kept what it must, fits with one record more.
-- Assumes nothing.
use Prim.Native.Nat.{ℕ, suc, ◌+◌, ◌-◌, ◌<◌}
use Rattle.std.specs.Prelude.{◌≡◌, get_or}
use Rattle.std.proofs.Math.Path.{ap}
use Rattle.std.proofs.Common.{◌∙◌}
use mathlib.Core.List.{List, []}
use Rattle.std.proofs.Math.ListN.{length}
use native.Mathlib.Omega.{arith}
use Rattle.std.proofs.Math.Decide.{ℕ_discrete}
use Rattle.timeline.specs.Design.{Component, Call, Port, Source, Class, no_call, no_component}
use Rattle.timeline.specs.Design as T
use Rattle.entry.specs.Lists.{add_last}
use Rattle.entry.specs.Records.{Part, input, output, instance, invocation, argument, connection, records}
use Rattle.entry.specs.Numbers.{component_number}
use Rattle.entry.specs.Entered.{new, add}
use Rattle.entry.specs.Asks.{made_of, part_asks}
use Rattle.entry.specs.Asks as A
use Rattle.entry.proofs.Laws.{none_in_empty, length_add_last, at_old, at_new, at_last, Keeps}
use Rattle.reading.specs.Reader.{Row, Reader}
use Rattle.reading.specs.Step.{own_row, Same, PartStep, Begun, Ended}
use Rattle.reading.specs.Table.{RowOf, TableOf}
use Rattle.reading.proofs.Placed.{makes_due, nothing_due}
use Rattle.reading.proofs.Moved.{still_stands, begun_stands}
use Rattle.reading.proofs.Fits.{CallOf, DueOf, Fits}
use Rattle.reading.proofs.Looked.{number_old, number_new}

module _ (E : List Component) (C : Component) (r r' : Reader) (fits : Fits E C r) where
  rows_on : Same r r' → (c : ℕ) → c < length E → RowOf (get_or E c no_component) (component_number E c) (r'.row c)
  rows_on s c l = rw (s.row c (let z = fits.number in omega arith)) (fits.rows c l)

  held_on : Same r r' → (n : ℕ) → n < length C.instances → RowOf (made_of E C n) (component_number E (get_or C.instances n 0)) (r'.held n)
  held_on s n l = rw (s.held n (let z = fits.stands.counts in omega arith)) (fits.held n l)

  call_on : Same r r' → (j : ℕ) → j < length C.calls → CallOf E C r' j
  call_on s j l =
      let a = s.call j (let z = fits.stands.counts in omega arith) in
      let b = fits.calls j l in
      record { instance = a.instance ∙ b.instance; offset = a.offset ∙ b.offset; outputs = a.outputs ∙ b.outputs; output_record = a.output_record ∙ b.output_record }

  -- What the records of ports and instances leave alone: no invocation has been read yet.
  no_calls : C.calls ≡ [] → (j : ℕ) → j < length C.calls → ⊥
  no_calls e j l = none_in_empty C.calls j e l

  onward_input : (p : Port) → A.Place E C (input p) → PartStep r r' (input p) → Fits E (add (input p) C) r'
  unfolding makes_due
  onward_input p place (s, m) =
      record {
        stands = rw m (still_stands E C r.place fits.stands (input p) place);
        delay = s.delay ∙ fits.delay;
        first = s.first ∙ fits.first;
        number = s.number ∙ fits.number;
        rows = rows_on s;
        held = held_on s;
        calls = λ j l. absurd (no_calls place.2 j l);
        due = λ j l. absurd (no_calls place.2 j (omega arith));
      }

  onward_output : (p : Port) → A.Place E C (output p) → PartStep r r' (output p) → Fits E (add (output p) C) r'
  unfolding makes_due
  onward_output p place (s, m) =
      record {
        stands = rw m (still_stands E C r.place fits.stands (output p) place);
        delay = s.delay ∙ fits.delay;
        first = s.first ∙ fits.first;
        number = s.number ∙ fits.number;
        rows = rows_on s;
        held = held_on s;
        calls = λ j l. absurd (no_calls place.1 j l);
        due = λ j l. absurd (no_calls place.1 j (omega arith));
      }

  onward_instance : (n : ℕ) → A.Place E C (instance n) → n < length E → PartStep r r' (instance n) → Fits E (add (instance n) C) r'
  unfolding makes_due
  onward_instance n place lower (s, m, new) =
      record {
        stands = rw m (still_stands E C r.place fits.stands (instance n) place);
        delay = s.delay ∙ fits.delay;
        first = s.first ∙ fits.first;
        number = s.number ∙ fits.number;
        rows = rows_on s;
        held = λ i l. go i l (ℕ_discrete i (length C.instances));
        calls = λ j l. absurd (no_calls place.1 j l);
        due = λ j l. absurd (no_calls place.1 j (omega arith));
      }
    where
      go : (i : ℕ) → i < length (add_last C.instances n) → Dec (i ≡ length C.instances) → RowOf (made_of E (add (instance n) C) i) (component_number E (get_or (add_last C.instances n) i 0)) (r'.held i)
      go i l (yes e) = rw (e, at_new 0 C.instances n, ← fits.stands.counts.instances, new) (fits.rows n lower)
      go i l (no d) =
          let k : i < length C.instances = let z = length_add_last C.instances n in omega arith in
          rw (at_old 0 C.instances n i k) (held_on s i k)

  onward_invocation : (v : Call) → A.Place E C (invocation v) → v.instance < length C.instances → PartStep r r' (invocation v) → Fits E (add (invocation v) C) r'
  unfolding makes_due
  onward_invocation v place named (s, m, new) =
      record {
        stands = rw (m, w.inputs) (still_stands E C r.place fits.stands (invocation v) place);
        delay = s.delay ∙ fits.delay;
        first = s.first ∙ fits.first;
        number = s.number ∙ fits.number;
        rows = rows_on s;
        held = held_on s;
        calls = λ j l. go j l (ℕ_discrete j (length C.calls));
        due = λ j l k. due j (let z = length_add_last C.calls v in omega arith);
      }
    where
      C' : Component
      C' = add (invocation v) C

      w : RowOf (made_of E C v.instance) (component_number E (get_or C.instances v.instance 0)) (r.held v.instance)
      w = fits.held v.instance named

      go : (j : ℕ) → j < length (add_last C.calls v) → Dec (j ≡ length C.calls) → CallOf E C' r' j
      go j l (yes e) =
          let x = w.first in
          let y = w.inputs in
          let z = new.output_record in
          rw e (record {
            instance = rw (at_new no_call C.calls v, ← fits.stands.counts.invocations) new.instance;
            offset = rw (at_new no_call C.calls v, ← fits.stands.counts.invocations) new.offset;
            outputs = rw (at_new no_call C.calls v, ← fits.stands.counts.invocations) (new.outputs ∙ w.outputs);
            output_record = rw (at_new no_call C.calls v, ← fits.stands.counts.invocations) (omega arith);
          })
      go j l (no d) =
          let k : j < length C.calls = let z = length_add_last C.calls v in omega arith in
          let c = call_on s j k in
          record {
            instance = rw (at_old no_call C.calls v j k) c.instance;
            offset = rw (at_old no_call C.calls v j k) c.offset;
            outputs = rw (at_old no_call C.calls v j k) c.outputs;
            output_record = rw (at_old no_call C.calls v j k) c.output_record;
          }

      due : (j : ℕ) → j ≡ length C.calls → DueOf E C' r' j
      due j e =
          let x = w.first in
          let z = new.input_record in
          rw e (record {
            input_record = rw (at_new no_call C.calls v, ← fits.stands.lists, at_new [] C.arguments []) (omega arith);
            offset = rw (at_new no_call C.calls v) new.due_offset;
          })

  onward_argument : (x : Source) → A.Place E C (argument x) → PartStep r r' (argument x) → Fits E (add (argument x) C) r'
  unfolding makes_due
  onward_argument x place (s, m, fed, k) =
      record {
        stands = rw m (still_stands E C r.place fits.stands (argument x) place);
        delay = s.delay ∙ fits.delay;
        first = s.first ∙ fits.first;
        number = s.number ∙ fits.number;
        rows = rows_on s;
        held = held_on s;
        calls = λ j l. let c = call_on s j l in record { instance = c.instance; offset = c.offset; outputs = c.outputs; output_record = c.output_record };
        due = λ j l d. due j l (fits.due j l (let e : r'.place.due ≡ r.place.due - 1 = ap (λ q. q.due) m in omega arith));
      }
    where
      due : (j : ℕ) → suc j ≡ length C.calls → DueOf E C r j → DueOf E (add (argument x) C) r' j
      due j l f =
          let e : suc j ≡ length C.arguments = let z = fits.stands.lists in omega arith in
          let u = length_add_last (get_or C.arguments j []) x in
          let y = f.input_record in
          record { input_record = rw (at_last [] (λ a. add_last a x) C.arguments j e) (omega arith); offset = k ∙ f.offset }

  onward_connection : (x : Source) → A.Place E C (connection x) → PartStep r r' (connection x) → Fits E (add (connection x) C) r'
  unfolding makes_due
  onward_connection x place (s, m) =
      let z = nothing_due E C r.place fits.stands place.1 in
      let e : r'.place.due ≡ r.place.due = ap (λ q. q.due) m in
      record {
        stands = rw m (still_stands E C r.place fits.stands (connection x) place);
        delay = s.delay ∙ fits.delay;
        first = s.first ∙ fits.first;
        number = s.number ∙ fits.number;
        rows = rows_on s;
        held = held_on s;
        calls = λ j l. let c = call_on s j l in record { instance = c.instance; offset = c.offset; outputs = c.outputs; output_record = c.output_record };
        due = λ j l d. absurd (omega arith);
      }

  pub onward_part : (x : Part) → Keeps (part_asks E C x) → PartStep r r' x → Fits E (add x C) r'
  onward_part (input p) (place, _) s = onward_input p place s
  onward_part (output p) (place, _) s = onward_output p place s
  onward_part (instance n) (place, (few, (lower, _))) s = onward_instance n place lower s
  onward_part (invocation v) (place, (few, (named, _))) s = onward_invocation v place named s
  onward_part (argument x) (place, _) s = onward_argument x place s
  onward_part (connection x) (place, _) s = onward_connection x place s

  own_fits : RowOf C (length (records E)) (own_row r)
  own_fits = record { built = fits.stands.class; delay = fits.delay; inputs = fits.stands.counts.inputs; outputs = fits.stands.counts.outputs; first = fits.first }

  -- The rows before, and the own row at its own number.
  pub rows_with_own : (row : ℕ → Row) → ((c : ℕ) → c < r.number → row c ≡ r.row c) → row r.number ≡ own_row r → TableOf (add_last E C) row
  unfolding T.component
  rows_with_own row old new c l = go (ℕ_discrete c (length E))
    where
      go : Dec (c ≡ length E) → RowOf (get_or (add_last E C) c no_component) (component_number (add_last E C) c) (row c)
      go (yes q) = rw (q, at_new no_component E C, number_new E C, ← fits.number, new) own_fits
      go (no n) =
          let k : c < length E = let z = length_add_last E C in omega arith in
          rw (at_old no_component E C c k, number_old E C c k, old c (let z = fits.number in omega arith)) (fits.rows c k)

  pub onward_component : (k : Class) (d : ℕ) → Begun k d (length (records (add_last E C))) (r.number + 1) r' → Ended r r' → Fits (add_last E C) (new k d) r'
  unfolding T.component
  onward_component k d b e =
      record {
        stands = rw b.place (begun_stands (add_last E C) k d);
        delay = b.delay;
        first = b.first;
        number = let x = b.number in let y = fits.number in let z = length_add_last E C in omega arith;
        rows = rows_with_own r'.row e.old e.new;
        held = λ n l. absurd (omega arith);
        calls = λ j l. absurd (omega arith);
        due = λ j l. absurd (omega arith);
      }

pub onward_first : (k : Class) (d : ℕ) (r : Reader) → Begun k d 0 0 r → Fits [] (new k d) r
unfolding records
onward_first k d r b =
    record {
      stands = rw b.place (begun_stands [] k d);
      delay = b.delay;
      first = b.first;
      number = b.number;
      rows = λ c l. absurd (omega arith);
      held = λ n l. absurd (omega arith);
      calls = λ j l. absurd (omega arith);
      due = λ j l. absurd (omega arith);
    }
