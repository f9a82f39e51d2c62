-- What the rows that a component was lowered to are to do, wherever they were read.
-- Assumes nothing.
use Rattle.std.specs.Prelude.{ℕ, List, ◌↔◌}
use Rattle.timeline.specs.Design.{Design, Source, delay}
use Rattle.timeline.specs.Uses.{Spaced}
use Rattle.entry.specs.Records.{Record}
use Rattle.timetable.specs.Table.{TableDrives, TableStarts, TableConnects}
use Rattle.timetable.specs.Rows.{Row}
use Rattle.timetable.specs.Drives.{RowsDrive, RowsStart, RowsConnect, OneDriver}

-- The rows, naming records of the list rs, do for any set S of starts exactly what the timetable of component c does;
-- and where the starts keep the component's delay apart, at most one invocation of one start drives an input in a cycle.
pub record DoTheTimetable (D : Design) (c : ℕ) (rs : List Record) (S : ℕ → Type 0) (rows : List Row) : Type 0 where
  pub drives : (x n i : ℕ) (s : Source) (r j t : ℕ) → RowsDrive rows rs S x n i s r j t ↔ TableDrives D c S x n i s r j t
  pub starts : (x n j t : ℕ) → RowsStart rows S x n j t ↔ TableStarts D c S x n j t
  pub connects : (o : ℕ) (s : Source) (r : ℕ) → RowsConnect rows rs o s r ↔ TableConnects D c o s r
  pub one_driver : Spaced (delay D c) S → OneDriver rows rs S
