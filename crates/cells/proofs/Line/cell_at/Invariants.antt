-- The cell is that of the invocations passed.
use Rattle.std.proofs.Common.{◌≡◌}
use Rattle.cells.specs.Cells.{cell_to}
use Rattle.cells.proofs.Line.cell_at.Given as goal

abbrev pub invariant-loop-j : goal.invariant-loop-j
invariant-loop-j l = l.c ≡ cell_to l.uses l.self.instance l.self.start l.self.end l.self.delay l.t l.j
