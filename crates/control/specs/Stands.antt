-- Where the records of the component that is lowered stand in a judged file, and what an invocation of it is.
-- Assumes nothing.
use Rattle.std.specs.Prelude.{ℕ, ◌+◌, Bool, ◌&&◌, ltb, Option, Some, None, ◌≤◌, ◌<◌, ◌≡◌, List, length}
use Rattle.timeline.specs.Design.{Design, built, class, delay, input_count, output_count, invocation_count, instance, invoked, offset}
use Rattle.reading.specs.Tests.{is_built}
use Rattle.timeline.specs.Flat.{join_below}
use Rattle.entry.specs.Numbers.{component_number, instance_number, invocation_number, connection_number}
use Rattle.timetable.specs.Rows.{Row, invocation_rows, rows}
use Rattle.groups.specs.Groups.{design_of, Opened}
use Rattle.rows.specs.declared.Use.{Use}
use Rattle.control.specs.declared.Built.{Built}
use Rattle.control.specs.declared.Uses.{Uses}

-- Component c of D is there and built.
abbrev pub can_lower : Design → (c : ℕ) → Bool
can_lower D c = ltb c (length D) && is_built (class D c)

-- The design that the file says.
abbrev pub design : Built → Design
design b = design_of b.judged.file.now b.judged.records

-- How many invocations the component has; the rows of the first j of them, and all its rows.
abbrev pub called : Built → ℕ
called b = invocation_count (design b) b.number

abbrev pub rows_called : Built → (j : ℕ) → List Row
rows_called b j = join_below j (invocation_rows (design b) b.number)

abbrev pub all_rows : Built → List Row
all_rows b = rows (design b) b.number

-- b is a built component of its file, and the groups of its records begin where it says.
pub record Stands (b : Built) : Type 0 where
  pub opened : Opened b.judged.file.now b.judged.rows.now b.judged.records
  pub there : b.number < length (design b)
  pub is_built : class (design b) b.number ≡ built
  pub delay_is : b.row.delay ≡ delay (design b) b.number
  pub inputs_are : b.row.inputs ≡ input_count (design b) b.number
  pub outputs_are : b.row.outputs ≡ output_count (design b) b.number
  pub first_is : b.row.first ≡ component_number (design b) b.number
  pub instances_at : b.instances ≡ instance_number (design b) b.number 0
  pub invocations_at : b.invocations ≡ invocation_number (design b) b.number 0
  pub connections_at : b.connections ≡ connection_number (design b) b.number 0

-- Record i is that of invocation j, or after the last of them the first connection's.
pub record Begins (b : Built) (j i : ℕ) : Type 0 where
  pub up_to : j ≤ called b
  pub at : i ≡ invocation_number (design b) b.number j

-- u is invocation j of component c.
pub record UseOf (D : Design) (c j : ℕ) (u : Use) : Type 0 where
  pub number_is : u.number ≡ j
  pub record_is : u.record ≡ invocation_number D c j
  pub instance_is : u.instance ≡ instance D c j
  pub offset_is : u.offset ≡ offset D c j
  pub inputs_are : u.inputs ≡ input_count D (invoked D c j)
  pub outputs_are : u.outputs ≡ output_count D (invoked D c j)
  pub first_is : u.first ≡ component_number D (invoked D c j)

-- The next invocation of the component stands where these say, if there is one more.
pub record MayCall (s : Uses) : Type 0 where
  pub stands : Stands s.of
  pub begins : Begins s.of s.number s.record

-- Invocation u comes next, and leaves t.
pub record Comes (s : Uses) (u : Use) (t : Uses) : Type 0 where
  pub is_use : UseOf (design s.of) s.of.number s.number u
  pub before : s.record < s.of.connections
  pub same : t.of ≡ s.of
  pub next : t.number ≡ s.number + 1
  pub behind : t.record ≡ s.record + (1 + u.inputs)

-- One invocation after another, until all have come.
abbrev pub Gives : Uses → Option Use → Uses → Type 0
Gives s None t = (s.of.connections ≤ s.record) × (s.number ≡ called s.of) × (t ≡ s)
Gives s (Some u) t = Comes s u t
