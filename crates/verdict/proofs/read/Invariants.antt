-- The table has the rows of the components before, and each component leaves fewer records.
use Rattle.std.proofs.Common.{◌-◌}
use Rattle.verdict.specs.Judgement.{kept}
use Rattle.verdict.proofs.Going.{Going}
use Rattle.verdict.proofs.read.Given as goal

abbrev pub invariant-loop-e : goal.invariant-loop-e
invariant-loop-e l = Going l.file l.count (kept l.table) l.q

abbrev pub decreases-loop-e : goal.decreases-loop-e
decreases-loop-e l = l.count - l.q.at
