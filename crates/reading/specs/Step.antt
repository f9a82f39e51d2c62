-- What a reader must have kept after a record that passed its tests. Below the counts nothing is forgotten; above them anything may stand.
-- Assumes nothing.
use Rattle.std.specs.Prelude.{ℕ, ◌+◌, ◌<◌, ◌≡◌}
use Rattle.timeline.specs.Design.{Class}
use Rattle.entry.specs.Records.{Part, input, output, instance, invocation, argument, connection, Record, wrong, component, part}
use Rattle.reading.specs.Tests.{is_built}
use Rattle.reading.specs.Place.{begun, moved}
use Rattle.reading.specs.Reader.{Row, Reader, View, waits, reads}

-- The row of the component that has been read.
abbrev pub own_row : Reader → Row
own_row r = record { built = r.place.built; delay = r.delay; inputs = r.place.inputs; outputs = r.place.outputs; first = r.first }

-- From r to r'.
module _ (r r' : Reader) where
  pub record SameCall (j : ℕ) : Type 0 where
    pub instance : r'.instance j ≡ r.instance j
    pub offset : r'.offset j ≡ r.offset j
    pub outputs : r'.outputs j ≡ r.outputs j
    pub output_record : r'.output_record j ≡ r.output_record j

  -- All of it but the place and the argument that is due.
  pub record Same : Type 0 where
    pub delay : r'.delay ≡ r.delay
    pub first : r'.first ≡ r.first
    pub number : r'.number ≡ r.number
    pub row : (c : ℕ) → c < r.number → r'.row c ≡ r.row c
    pub held : (n : ℕ) → n < r.place.instances → r'.held n ≡ r.held n
    pub call : (j : ℕ) → j < r.place.invocations → SameCall j

  -- One invocation more: of instance n at offset k, of the component with row w.
  pub record NewCall (n k : ℕ) (w : Row) : Type 0 where
    pub instance : r'.instance r.place.invocations ≡ n
    pub offset : r'.offset r.place.invocations ≡ k
    pub outputs : r'.outputs r.place.invocations ≡ w.outputs
    pub output_record : r'.output_record r.place.invocations ≡ w.first + 1 + w.inputs
    pub input_record : r'.input_record ≡ w.first + 1
    pub due_offset : r'.due_offset ≡ k

  abbrev pub PartStep : Part → Type 0
  PartStep (input p) = Same × (r'.place ≡ moved r.place (input p) 0)
  PartStep (output p) = Same × (r'.place ≡ moved r.place (output p) 0)
  PartStep (instance n) = Same × (r'.place ≡ moved r.place (instance n) 0) × (r'.held r.place.instances ≡ r.row n)
  PartStep (invocation v) =
      let w = r.held v.instance in
      Same × (r'.place ≡ moved r.place (invocation v) w.inputs) × NewCall v.instance v.offset w
  PartStep (argument x) =
      Same × (r'.place ≡ moved r.place (argument x) 0) × (r'.input_record ≡ r.input_record + 1) × (r'.due_offset ≡ r.due_offset)
  PartStep (connection x) = Same × (r'.place ≡ moved r.place (connection x) 0)

-- A component record, number p, begins component c.
pub record Begun (k : Class) (d p c : ℕ) (r' : Reader) : Type 0 where
  pub place : r'.place ≡ begun (is_built k)
  pub delay : r'.delay ≡ d
  pub first : r'.first ≡ p
  pub number : r'.number ≡ c

-- And the one before has its row.
pub record Ended (r r' : Reader) : Type 0 where
  pub old : (c : ℕ) → c < r.number → r'.row c ≡ r.row c
  pub new : r'.row r.number ≡ own_row r

-- After record x, number p. A wrong record, and a part before the first component record, pass no tests.
abbrev pub Step : View → (p : ℕ) → (x : Record) → View → Type 0
Step waits p wrong v = Unit
Step waits p (component k d) waits = ⊥
Step waits p (component k d) (reads r') = Begun k d p 0 r'
Step waits p (part x) v = Unit
Step (reads r) p wrong v = Unit
Step (reads r) p (component k d) waits = ⊥
Step (reads r) p (component k d) (reads r') = Begun k d p (r.number + 1) r' × Ended r r'
Step (reads r) p (part x) waits = ⊥
Step (reads r) p (part x) (reads r') = PartStep r r' x
