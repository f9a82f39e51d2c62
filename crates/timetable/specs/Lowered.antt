-- What lowering is to ensure: of the rows of one component, and of those of every unit below a top.
-- Assumes nothing.
use Rattle.std.specs.Prelude.{ℕ, ◌≤◌, ◌≡◌, List, ◌↔◌, length}
use Rattle.timeline.specs.Design.{Design, Source, built, class, delay}
use Rattle.timeline.specs.Uses.{Spaced}
use Rattle.timeline.specs.Wires.{Pin, component_of, Carries}
use Rattle.entry.specs.Records.{Record}
use Rattle.timetable.specs.Lists.{Has}
use Rattle.timetable.specs.Table.{TableDrives, TableStarts, TableConnects}
use Rattle.timetable.specs.States.{states}
use Rattle.timetable.specs.Rows.{Row, rows}
use Rattle.timetable.specs.Places.{row_count, Within}
use Rattle.timetable.specs.Bytes.{Fits}
use Rattle.timetable.specs.Drives.{RowsDrive, OneDriver, RowsStart, RowsConnect}
use Rattle.timetable.specs.Units.{unit_rows, UnitThere, SourceThere, RowsBegin, UseBegins, RowsCarry}

-- The rows of component c, naming records of the list rs, for any set S of starts.
pub record Lowered (D : Design) (c : ℕ) (rs : List Record) (S : ℕ → Type 0) : Type 0 where
  -- They drive exactly what the timetable drives, start exactly what it starts, and connect exactly what it connects.
  pub drives : (x n i : ℕ) (s : Source) (r j t : ℕ) → RowsDrive (rows D c) rs S x n i s r j t ↔ TableDrives D c S x n i s r j t
  pub starts : (x n j t : ℕ) → RowsStart (rows D c) S x n j t ↔ TableStarts D c S x n j t
  pub connects : (o : ℕ) (s : Source) (r : ℕ) → RowsConnect (rows D c) rs o s r ↔ TableConnects D c o s r
  -- Where starts keep the delay apart, at most one invocation of one start drives an input of an instance in a cycle.
  pub one_driver : Spaced (delay D c) S → OneDriver (rows D c) rs S
  -- "So n ≤ 2,047." Every state that a row names is one of the n; and in a list of no more records than a file has, every number is a 16-bit number.
  pub states_most : states D c ≤ 2047
  pub states_within : (r : Row) → Has (rows D c) r → Within (states D c) r
  pub rows_most : row_count D c ≤ 1105
  pub numbers_fit : length rs ≤ 3968 → (r : Row) → Has (rows D c) r → Fits r

-- The rows of every unit below a top, naming records of the list rs, for any set S of starts of the top.
pub record Wired (D : Design) (top : ℕ) (rs : List Record) (S : ℕ → Type 0) : Type 0 where
  -- They start each unit exactly when a use of demand 3 does, and carry exactly what its wires do.
  pub begins : (u : List ℕ) (x : ℕ) → RowsBegin D top S u x ↔ UseBegins D top S u x
  pub carries : (x : ℕ) (u : List ℕ) (s : Source) (w : Pin) → UnitThere D top u → SourceThere D top u s
      → RowsCarry D top S rs x u s w ↔ Carries D top S x u s w
  -- Where the top's starts keep its delay apart, those of every built unit do, and at most one invocation of one start drives an input.
  pub spaced : Spaced (delay D top) S → (u : List ℕ) → class D (component_of D top u) ≡ built
      → Spaced (delay D (component_of D top u)) (RowsBegin D top S u)
  pub one_driver : Spaced (delay D top) S → (u : List ℕ) → OneDriver (unit_rows D top u) rs (RowsBegin D top S u)
