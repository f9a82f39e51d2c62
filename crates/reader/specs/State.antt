-- What the reader keeps beside the table, how the theory sees it, and what it keeps after a record.
-- Assumes nothing.
use Rattle.std.specs.Prelude.{ℕ, ◌+◌, ◌≤◌, ◌<◌, Bool, true, false, ◌≡◌, List, [], get_or, set, replicate, Result, Ok, Err}
use Rattle.answers.specs.declared.fault.Fault.{Fault}
use Rattle.timeline.specs.Design.{Class, leaf, Port}
use Rattle.entry.specs.Records.{Part, input, output, instance, invocation, argument, connection, Record, wrong, component, part}
use Rattle.reading.specs.Tests.{is_built}
use Rattle.reading.specs.Place.{Place, begun, moved}
use Rattle.reading.specs.Reader as Reading
use Rattle.reading.specs.Reader.{Row, tests}
use Rattle.rules.specs.Failed.{first_failed}
use Rattle.order.specs.Seen.{seen, closed}
use Rattle.reader.specs.declared.Reader.{Reader}
use Rattle.reader.specs.Rows.{none}

pub record State : Type 0 where
  pub place : Place
  pub delay : ℕ
  pub first : ℕ
  pub number : ℕ
  pub input_record : ℕ
  pub due_offset : ℕ
  -- The row of each instance's component; of each invocation its instance, its offset, how many outputs it has, the record of the first of them.
  pub held : ℕ → Row
  pub instances : List ℕ
  pub offsets : List ℕ
  pub outputs : List ℕ
  pub output_records : List ℕ

-- The declared reader with the arrays beside it.
abbrev pub state : Reader → (held : ℕ → Row) → (instances offsets outputs output_records : List ℕ) → State
state r held instances offsets outputs output_records =
    record {
      place = seen r.place;
      delay = r.delay;
      first = r.first;
      number = r.number;
      input_record = r.input;
      due_offset = r.offset;
      held = held;
      instances = instances;
      offsets = offsets;
      outputs = outputs;
      output_records = output_records;
    }

-- What is kept after a record: what a turn hands back, and where it refuses what was kept before.
abbrev pub after : Reader → Result Reader Fault → Reader
after r (Ok s) = s
after r (Err f) = r

-- Of no invocation yet; its instance is none.
abbrev pub zeros : List ℕ
zeros = replicate 64 0

abbrev pub unnamed : List ℕ
unnamed = replicate 64 65535

-- A state of no instance and no invocation, with this reader.
abbrev pub fresh : Reader → State
fresh r = state r none unnamed zeros zeros zeros

-- Before the first record.
abbrev pub before : State
before =
    record {
      place = closed;
      delay = 0;
      first = 0;
      number = 0;
      input_record = 0;
      due_offset = 0;
      held = none;
      instances = unnamed;
      offsets = zeros;
      outputs = zeros;
      output_records = zeros;
    }

-- As the theory sees it, with the rows of the table.
abbrev pub viewed : (rows : ℕ → Row) → State → Reading.Reader
viewed rows s =
    record {
      place = s.place;
      delay = s.delay;
      first = s.first;
      number = s.number;
      row = rows;
      held = s.held;
      instance = λ j. get_or s.instances j 0;
      offset = λ j. get_or s.offsets j 0;
      outputs = λ j. get_or s.outputs j 0;
      output_record = λ j. get_or s.output_records j 0;
      input_record = s.input_record;
      due_offset = s.due_offset;
    }

-- A reader of which neither rows nor arrays are looked at.
abbrev pub bare : Reader → Reading.Reader
bare r = viewed none (state r none [] [] [] [])

-- The row of the component that is being read.
abbrev pub own_row : State → Row
own_row s = record { built = s.place.built; delay = s.delay; inputs = s.place.inputs; outputs = s.place.outputs; first = s.first }

-- The record's own number p begins component c.
abbrev pub begin : Class → (d p c : ℕ) → State
begin k d p c =
    record {
      place = begun (is_built k);
      delay = d;
      first = p;
      number = c;
      input_record = 0;
      due_offset = 0;
      held = none;
      instances = unnamed;
      offsets = zeros;
      outputs = zeros;
      output_records = zeros;
    }

module _ (s : State) where
  abbrev pub at_place : Place → State
  at_place x =
      record {
        place = x;
        delay = s.delay;
        first = s.first;
        number = s.number;
        input_record = s.input_record;
        due_offset = s.due_offset;
        held = s.held;
        instances = s.instances;
        offsets = s.offsets;
        outputs = s.outputs;
        output_records = s.output_records;
      }

  -- The row of an instance's component is put into `held` apart.
  abbrev pub part_went : Part → State
  part_went (input p) = at_place (moved s.place (input p) 0)
  part_went (output p) = at_place (moved s.place (output p) 0)
  part_went (instance n) = at_place (moved s.place (instance n) 0)
  part_went (invocation v) =
      record {
        place = moved s.place (invocation v) (s.held v.instance).inputs;
        delay = s.delay;
        first = s.first;
        number = s.number;
        input_record = (s.held v.instance).first + 1;
        due_offset = v.offset;
        held = s.held;
        instances = set s.instances s.place.invocations v.instance;
        offsets = set s.offsets s.place.invocations v.offset;
        outputs = set s.outputs s.place.invocations (s.held v.instance).outputs;
        output_records = set s.output_records s.place.invocations ((s.held v.instance).first + 1 + (s.held v.instance).inputs);
      }
  part_went (argument x) =
      record {
        place = moved s.place (argument x) 0;
        delay = s.delay;
        first = s.first;
        number = s.number;
        input_record = s.input_record + 1;
        due_offset = s.due_offset;
        held = s.held;
        instances = s.instances;
        offsets = s.offsets;
        outputs = s.outputs;
        output_records = s.output_records;
      }
  part_went (connection x) = at_place (moved s.place (connection x) 0)

  -- A component record ends it.
  abbrev pub went : Record → State
  went wrong = s
  went (component k d) = s
  went (part x) = part_went x

  abbrev pub holding : (ℕ → Row) → State
  holding h =
      record {
        place = s.place;
        delay = s.delay;
        first = s.first;
        number = s.number;
        input_record = s.input_record;
        due_offset = s.due_offset;
        held = h;
        instances = s.instances;
        offsets = s.offsets;
        outputs = s.outputs;
        output_records = s.output_records;
      }

-- After component record p, of component c; what another record begins is not looked at.
abbrev pub opened : Record → (p c : ℕ) → State
opened wrong p c = begin leaf 0 p c
opened (component k d) p c = begin k d p c
opened (part x) p c = begin leaf 0 p c

-- The instance that a record names, 0 for none.
abbrev pub part_named : Part → ℕ
part_named (input p) = 0
part_named (output p) = 0
part_named (instance n) = 0
part_named (invocation v) = v.instance
part_named (argument x) = 0
part_named (connection x) = 0

abbrev pub named : Record → ℕ
named wrong = 0
named (component k d) = 0
named (part x) = part_named x

abbrev pub is_component : Record → Bool
is_component wrong = false
is_component (component k d) = true
is_component (part x) = false

-- What the counts of a reader that met with no refusal stay below.
pub record Few (r : Reader) : Type 0 where
  pub number : r.number < 64
  pub inputs : r.place.inputs ≤ 16
  pub outputs : r.place.outputs ≤ 16
  pub connections : r.place.connections ≤ 16
  pub delay : r.delay < 65536
  pub first : r.first < 65536
  pub offset : r.offset < 65536

-- After record x, number p, in state s: the number of its refusal, and the next state where there is none.
pub record Turned (look : ℕ → Port) (s : State) (p : ℕ) (x : Record) (refusal : ℕ) (s' : State) : Type 0 where
  pub number_is : refusal ≡ first_failed (tests look (Reading.reads (viewed none s)) x)
  pub goes_on : refusal ≡ 0 → s' ≡ went s x
  pub input_record : refusal ≡ 0 → s'.input_record ≤ 65536 + (p + 1)
