-- How the reading goes from record to record, as the theory of reading has it: its state, how that is seen, and the next one.
-- Assumes nothing.
use Rattle.std.specs.Prelude.{ℕ, zero, suc, ◌≤◌, ◌<◌, ◌-◌, ◌+◌, ◌≡◌, List, map, length}
use Rattle.answers.specs.Answer.{Answer, Counts}
use Rattle.entry.specs.Records.{Record, wrong, component, part, Part, input, output, instance, invocation, argument, connection}
use Rattle.reading.specs.Changed.{changed}
use Rattle.reading.specs.Reader as Reading
use Rattle.reading.specs.Reader.{Row, View}
use Rattle.reading.specs.Reads.{answer, last_state}
use Rattle.records.specs.Decoded.{decoded}
use Rattle.look.specs.Look.{look}
use Rattle.reader.specs.Rows.{none}
use Rattle.reader.specs.State.{State, viewed, own_row, begin, part_went, holding}
use Rattle.look.specs.Listed.{sixteens, records_of}

-- Before the first component record; and after it, with the rows of the components before and what the reader keeps.
pub data Run : Type 0 where
  waits : Run
  reads : (ℕ → Row) → State → Run

-- After so many records that met with no refusal.
abbrev pub after : ℕ → (ℕ → Row) → State → Run
after zero rows s = waits
after (suc i) rows s = reads rows s

abbrev pub view : Run → View
view waits = Reading.waits
view (reads rows s) = Reading.reads (viewed rows s)

-- The row of an instance's component is held.
abbrev pub held_on : (ℕ → Row) → State → Part → State
held_on rows s (input p) = part_went s (input p)
held_on rows s (output p) = part_went s (output p)
held_on rows s (instance n) = holding (part_went s (instance n)) (changed s.held s.place.instances (rows n))
held_on rows s (invocation v) = part_went s (invocation v)
held_on rows s (argument x) = part_went s (argument x)
held_on rows s (connection x) = part_went s (connection x)

abbrev pub next : Run → ℕ → Record → Run
next waits p wrong = waits
next waits p (component k d) = reads none (begin k d p 0)
next waits p (part x) = waits
next (reads rows s) p wrong = reads rows s
next (reads rows s) p (component k d) = reads (changed rows s.number (own_row s)) (begin k d p (s.number + 1))
next (reads rows s) p (part x) = reads rows (held_on rows s x)

-- The lengths of the arrays, and what the counts stay below.
pub record Fit (s : State) : Type 0 where
  pub instances : length s.instances ≡ 64
  pub offsets : length s.offsets ≡ 64
  pub outputs : length s.outputs ≡ 64
  pub output_records : length s.output_records ≡ 64
  pub number : s.number < 64
  pub few_inputs : s.place.inputs ≤ 16
  pub few_outputs : s.place.outputs ≤ 16
  pub few_connections : s.place.connections ≤ 16
  pub small_delay : s.delay < 65536
  pub small_first : s.first < 65536
  pub small_offset : s.due_offset < 65536

abbrev pub Own : Run → Type 0
Own waits = Unit
Own (reads rows s) = Fit s

-- Of the first n records of a file, those from number i on: what they answer, and where they lead.
module _ (file : List ℕ) (n : ℕ) where
  abbrev pub from : ℕ → List Record
  from i = map decoded (sixteens file i (n - i))

  abbrev pub rest : Run → ℕ → Answer Counts
  rest s i = answer Run view next Own (records_of file n) (look file) s i (from i)

  abbrev pub last : Run → ℕ → Run
  last s i = last_state Run view next Own (records_of file n) (look file) s i (from i)

  -- From record i in state a it comes to record j in state b.
  pub record Onward (a : Run) (i : ℕ) (b : Run) (j : ℕ) : Type 0 where
    pub answer : rest a i ≡ rest b j
    pub leads : last a i ≡ last b j
