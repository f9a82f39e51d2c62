-- What a reader keeps while it reads a record list, and the tests that it makes with it.
-- The tables are functions of a number, read only below their counts: whatever a program keeps, arrays or a lent table, can be seen as such a reader.
-- Assumes nothing.
use Rattle.std.specs.Prelude.{ℕ, ◌+◌, ◌-◌, ◌^◌, Bool, true, false, ◌&&◌, ◌||◌, not, [], ◌∷◌, eqb, ltb, leb}
use Rattle.answers.specs.Fault as Fault
use Rattle.timeline.specs.Design.{Port, Source, own, output_of, constant}
use Rattle.entry.specs.Records.{Part, input, output, instance, invocation, argument, connection, Record, wrong, component, part}
use Rattle.reading.specs.Tests.{every_below}
use Rattle.reading.specs.Scan.{Tests}
use Rattle.reading.specs.Place.{Place, may, may_end}

-- "What later components need is kept in a lent table with one row for each component: class, delay, port counts, first record."
pub record Row : Type 0 where
  pub built : Bool
  pub delay : ℕ
  pub inputs : ℕ
  pub outputs : ℕ
  pub first : ℕ

pub record Reader : Type 0 where
  -- Of the component that is being read: the place in it, its delay, its first record, its own number.
  pub place : Place
  pub delay : ℕ
  pub first : ℕ
  pub number : ℕ
  -- The row of each component before, and that of each instance's component.
  pub row : ℕ → Row
  pub held : ℕ → Row
  -- Of each invocation: its instance, its offset, how many outputs it has, and the record of the first of them.
  pub instance : ℕ → ℕ
  pub offset : ℕ → ℕ
  pub outputs : ℕ → ℕ
  pub output_record : ℕ → ℕ
  -- While an argument is due: the record of the input that it feeds, and the invocation's offset.
  pub input_record : ℕ
  pub due_offset : ℕ

-- Before the first record, and after.
pub data View : Type 0 where
  waits : View
  reads : Reader → View

-- 12: port p, its event at cycle a, contains port q, its event at cycle b.
abbrev pub contains : Port → ℕ → Port → ℕ → Bool
contains p a q b = leb (a + p.start) (b + q.start) && leb (b + q.end) (a + p.end)

-- 7, 8 and 12: port p, its event at cycle a, is read at port q, its event at cycle k.
abbrev pub fed_tests : (there : Bool) → Port → ℕ → Port → ℕ → Tests
fed_tests there p a q k = (Fault.Reference, there) ∷ (Fault.Width, eqb p.width q.width) ∷ (Fault.Reading, contains p a q k) ∷ []

abbrev pub constant_tests : ℕ → Port → Tests
constant_tests v q = (Fault.Reference, true) ∷ (Fault.Width, ltb v (2 ^ q.width)) ∷ (Fault.Reading, true) ∷ []

-- look n: the port that record n says, read lightly.
module _ (look : ℕ → Port) (r : Reader) where
  abbrev pub source_tests : (n : ℕ) → Source → Port → ℕ → Tests
  source_tests n (own i) q k = fed_tests (ltb i r.place.inputs) (look (r.first + 1 + i)) 0 q k
  source_tests n (output_of j o) q k = fed_tests (ltb j n && ltb o (r.outputs j)) (look (r.output_record j + o)) (r.offset j) q k
  source_tests n (constant v) q k = constant_tests v q

  -- 10 and 11, of invocation j and one of instance n at offset k that takes d.
  abbrev pub stands_apart : (n k d j : ℕ) → Bool
  stands_apart n k d j = not (eqb (r.instance j) n) || (leb (r.offset j + d) k || leb (k + d) (r.offset j))

  abbrev pub within_span : (n k d j : ℕ) → Bool
  within_span n k d j = not (eqb (r.instance j) n) || (leb (k + d) (r.offset j + r.delay) && leb (r.offset j + d) (k + r.delay))

  abbrev pub invocation_tests : (n k d : ℕ) → Tests
  invocation_tests n k d =
      (Fault.Reference, ltb n r.place.instances)
      ∷ (Fault.Spacing, every_below (stands_apart n k d) r.place.invocations)
      ∷ (Fault.Span, leb d r.delay && every_below (within_span n k d) r.place.invocations)
      ∷ []

  -- The tests at a record in range, in the order of the table.
  abbrev pub part_tests : Part → Tests
  part_tests (input p) = (Fault.Place, may r.place (input p)) ∷ (Fault.TooMany, ltb r.place.inputs 16) ∷ (Fault.Interval, leb p.end (p.start + r.delay)) ∷ []
  part_tests (output p) = (Fault.Place, may r.place (output p)) ∷ (Fault.TooMany, ltb r.place.outputs 16) ∷ (Fault.Interval, leb p.end (p.start + r.delay)) ∷ []
  part_tests (instance n) = (Fault.Place, may r.place (instance n)) ∷ (Fault.TooMany, ltb r.place.instances 32) ∷ (Fault.Reference, ltb n r.number) ∷ []
  part_tests (invocation v) =
      (Fault.Place, may r.place (invocation v)) ∷ (Fault.TooMany, ltb r.place.invocations 64) ∷ invocation_tests v.instance v.offset (r.held v.instance).delay
  part_tests (argument x) = (Fault.Place, may r.place (argument x)) ∷ source_tests (r.place.invocations - 1) x (look r.input_record) r.due_offset
  part_tests (connection x) =
      (Fault.Place, may r.place (connection x)) ∷ source_tests r.place.invocations x (look (r.first + 1 + r.place.inputs + r.place.connections)) 0

module _ (look : ℕ → Port) where
  abbrev pub tests : View → Record → Tests
  tests waits wrong = (Fault.Record, false) ∷ []
  tests waits (component k d) = (Fault.Record, true) ∷ []
  tests waits (part x) = (Fault.Record, true) ∷ (Fault.Place, false) ∷ []
  tests (reads r) wrong = (Fault.Record, false) ∷ []
  tests (reads r) (component k d) = (Fault.Record, true) ∷ (Fault.Place, may_end r.place) ∷ (Fault.TooMany, ltb (r.number + 1) 64) ∷ []
  tests (reads r) (part x) = (Fault.Record, true) ∷ part_tests look r x

abbrev pub ends : View → Tests
ends waits = (Fault.Place, false) ∷ []
ends (reads r) = (Fault.Place, may_end r.place) ∷ []

abbrev pub count : View → ℕ
count waits = 0
count (reads r) = r.number + 1
