-- What the rows of the table say: each the class, delay, port counts and first record of its component.
-- Assumes nothing.
use Rattle.std.specs.Prelude.{ℕ, ◌<◌, false, ◌≡◌, length}
use Rattle.timeline.specs.Design.{Design, Component, component}
use Rattle.entry.specs.Numbers.{component_number}
use Rattle.reading.specs.Tests.{is_built}
use Rattle.reading.specs.Changed.{changed}
use Rattle.reading.specs.Reader.{Row, View, waits, reads}
use Rattle.reading.specs.Step.{own_row}

-- Row w is that of component C, whose component record is number n.
pub record RowOf (C : Component) (n : ℕ) (w : Row) : Type 0 where
  pub built : w.built ≡ is_built C.class
  pub delay : w.delay ≡ C.delay
  pub inputs : w.inputs ≡ length C.inputs
  pub outputs : w.outputs ≡ length C.outputs
  pub first : w.first ≡ n

abbrev pub TableOf : Design → (ℕ → Row) → Type 0
TableOf D row = (c : ℕ) → c < length D → RowOf (component D c) (component_number D c) (row c)

-- The rows that a reader has kept, with that of the component that it has read last.
abbrev pub table : View → ℕ → Row
table waits c = record { built = false; delay = 0; inputs = 0; outputs = 0; first = 0 }
table (reads r) c = changed r.row r.number (own_row r) c
