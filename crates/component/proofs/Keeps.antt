-- After a record that passes its tests the state has kept what the theory of reading asks, and still fits.
-- Assumes nothing.
use Prim.Native.Nat.{ℕ, ◌+◌, ◌<◌}
use mathlib.Core.Bool.{Bool, true, false, ◌&&◌}
use mathlib.Core.Path.{◌≡◌, refl, ◌∙◌}
use mathlib.Core.List.{List}
use native.Mathlib.Omega.{arith}
use lib.ListN.{length, get_or, set, length-set}
use lib.Seq.{get_or-set_same, get_or-set_other}
use lib.Dec.{T, ltb, eqb, ltb→lt}
use Rattle.timeline.specs.Design.{Port, Class}
use Rattle.entry.specs.Records.{input, output, instance, invocation, argument, connection, Record, wrong, component, part}
use Rattle.reading.specs.Changed.{changed_there, changed_below}
use Rattle.reading.specs.Reader.{Row, tests}
use Rattle.reading.specs.Step.{Step}
use Rattle.reading.specs.Reads.{Ranged, Passes}
use Rattle.reader.specs.State.{State, own_row, begin, holding}
use Rattle.component.specs.Run.{Run, waits, reads, view, next, Fit, Own}

-- A list with one number set.
module _ (l : List ℕ) (i a : ℕ) where
  set_there : i < length l → get_or (set l i a) i 0 ≡ a
  set_there f = get_or-set_same l i a 0 f

  set_below : (j : ℕ) → j < i → get_or (set l i a) j 0 ≡ get_or l j 0
  set_below j b = get_or-set_other l i j a 0 (λ z. absurd (omega arith))

connection_below : (b c : Bool) (m n : ℕ) → T (b && (c && ltb m n)) → m < n
connection_below true true m n t = ltb→lt _ _ t
connection_below true false m n t = absurd t
connection_below false c m n t = absurd t

pub begin_fits : (k : Class) (d p c : ℕ) → c < 64 → d < 65536 → p < 65536 → Fit (begin k d p c)
begin_fits k d p c few small first =
    record { instances = refl; offsets = refl; outputs = refl; output_records = refl; number = few; few_inputs = omega arith; few_outputs = omega arith; few_connections = omega arith; small_delay = small; small_first = first; small_offset = omega arith }

-- What is held does not matter.
pub fits_holding : (s : State) (h : ℕ → Row) → Fit s → Fit (holding s h)
fits_holding s h f =
    record { instances = f.instances; offsets = f.offsets; outputs = f.outputs; output_records = f.output_records; number = f.number; few_inputs = f.few_inputs; few_outputs = f.few_outputs; few_connections = f.few_connections; small_delay = f.small_delay; small_first = f.small_first; small_offset = f.small_offset }

module _ (look : ℕ → Port) where
  pub own_next : (s : Run) (p : ℕ) (x : Record) → p < 65536 → Own s → Ranged x → Passes (tests look (view s) x) → Step (view s) p x (view (next s p x)) × Own (next s p x)
  own_next waits p wrong b f r t = (tt, f)
  own_next waits p (component k d) b f r t = (record { place = refl; delay = refl; first = refl; number = refl }, begin_fits k d p 0 (omega arith) (let m = r.1 in omega arith) b)
  own_next waits p (part x) b f r t = (tt, f)
  own_next (reads rows s) p wrong b f r t = (tt, f)
  own_next (reads rows s) p (component k d) b f r t = (
    (
      record { place = refl; delay = refl; first = refl; number = refl },
      record { old = λ c l. changed_below rows s.number (own_row s) c l; new = changed_there rows s.number (own_row s) },
    ),
    begin_fits k d p (s.number + 1) (ltb→lt _ _ t.1.1.0) (let m = r.1 in omega arith) b,
  )
  own_next (reads rows s) p (part (input q)) b f r t =
      let l = ltb→lt s.place.inputs 16 t.1.1.0 in (
        (record { delay = refl; first = refl; number = refl; row = λ c l. refl; held = λ n l. refl; call = λ j l. record { instance = refl; offset = refl; outputs = refl; output_record = refl } }, refl),
        record { instances = f.instances; offsets = f.offsets; outputs = f.outputs; output_records = f.output_records; number = f.number; few_inputs = omega arith; few_outputs = f.few_outputs; few_connections = f.few_connections; small_delay = f.small_delay; small_first = f.small_first; small_offset = f.small_offset },
      )
  own_next (reads rows s) p (part (output q)) b f r t =
      let l = ltb→lt s.place.outputs 16 t.1.1.0 in (
        (record { delay = refl; first = refl; number = refl; row = λ c l. refl; held = λ n l. refl; call = λ j l. record { instance = refl; offset = refl; outputs = refl; output_record = refl } }, refl),
        record { instances = f.instances; offsets = f.offsets; outputs = f.outputs; output_records = f.output_records; number = f.number; few_inputs = f.few_inputs; few_outputs = omega arith; few_connections = f.few_connections; small_delay = f.small_delay; small_first = f.small_first; small_offset = f.small_offset },
      )
  own_next (reads rows s) p (part (instance n)) b f r t = (
    (
      record { delay = refl; first = refl; number = refl; row = λ c l. refl; held = λ m l. changed_below s.held s.place.instances (rows n) m l; call = λ j l. record { instance = refl; offset = refl; outputs = refl; output_record = refl } },
      refl,
      changed_there s.held s.place.instances (rows n),
    ),
    record { instances = f.instances; offsets = f.offsets; outputs = f.outputs; output_records = f.output_records; number = f.number; few_inputs = f.few_inputs; few_outputs = f.few_outputs; few_connections = f.few_connections; small_delay = f.small_delay; small_first = f.small_first; small_offset = f.small_offset },
  )
  own_next (reads rows s) p (part (invocation v)) b f r t =
      let l = ltb→lt s.place.invocations 64 t.1.1.0 in
      let w = s.held v.instance in
      let j = s.place.invocations in
      let a : j < length s.instances = (let e = f.instances in omega arith) in
      let b : j < length s.offsets = (let e = f.offsets in omega arith) in
      let c : j < length s.outputs = (let e = f.outputs in omega arith) in
      let d : j < length s.output_records = (let e = f.output_records in omega arith) in (
        (
          record {
            delay = refl;
            first = refl;
            number = refl;
            row = λ c l. refl;
            held = λ n l. refl;
            call = λ i b. record {
              instance = set_below s.instances j v.instance i b;
              offset = set_below s.offsets j v.offset i b;
              outputs = set_below s.outputs j w.outputs i b;
              output_record = set_below s.output_records j (w.first + 1 + w.inputs) i b;
            };
          },
          refl,
          record {
            instance = set_there s.instances j v.instance a;
            offset = set_there s.offsets j v.offset b;
            outputs = set_there s.outputs j w.outputs c;
            output_record = set_there s.output_records j (w.first + 1 + w.inputs) d;
            input_record = refl;
            due_offset = refl;
          },
        ),
        record {
          instances = length-set s.instances j v.instance ∙ f.instances;
          offsets = length-set s.offsets j v.offset ∙ f.offsets;
          outputs = length-set s.outputs j w.outputs ∙ f.outputs;
          output_records = length-set s.output_records j (w.first + 1 + w.inputs) ∙ f.output_records;
          number = f.number;
          few_inputs = f.few_inputs;
          few_outputs = f.few_outputs;
          few_connections = f.few_connections;
          small_delay = f.small_delay;
          small_first = f.small_first;
          small_offset = (let m = r.1 in omega arith);
        },
      )
  own_next (reads rows s) p (part (argument x)) b f r t = (
    (record { delay = refl; first = refl; number = refl; row = λ c l. refl; held = λ n l. refl; call = λ j l. record { instance = refl; offset = refl; outputs = refl; output_record = refl } }, refl, refl, refl),
    record { instances = f.instances; offsets = f.offsets; outputs = f.outputs; output_records = f.output_records; number = f.number; few_inputs = f.few_inputs; few_outputs = f.few_outputs; few_connections = f.few_connections; small_delay = f.small_delay; small_first = f.small_first; small_offset = f.small_offset },
  )
  own_next (reads rows s) p (part (connection x)) b f r t =
      let l = connection_below s.place.built (eqb s.place.due 0) s.place.connections s.place.outputs t.1.0 in
      let m = f.few_outputs in (
        (record { delay = refl; first = refl; number = refl; row = λ c l. refl; held = λ n l. refl; call = λ j l. record { instance = refl; offset = refl; outputs = refl; output_record = refl } }, refl),
        record { instances = f.instances; offsets = f.offsets; outputs = f.outputs; output_records = f.output_records; number = f.number; few_inputs = f.few_inputs; few_outputs = f.few_outputs; few_connections = omega arith; small_delay = f.small_delay; small_first = f.small_first; small_offset = f.small_offset },
      )
