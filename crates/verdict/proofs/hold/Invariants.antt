-- The loop of `verdict::hold`: `Holding`, and fewer rows are wanted after each turn.
use Rattle.std.proofs.Common.{length}
use Rattle.component.specs.Wanted.{wanted, placed, gathered}
use Rattle.verdict.proofs.Holding.{Holding}
use Rattle.verdict.proofs.hold.Given as goal

abbrev pub invariant-loop-next : goal.invariant-loop-next
invariant-loop-next l = Holding l.file l.table (gathered l.initial.rows l.table (placed l.initial.next) (wanted l.file l.initial.next)) l.next l.rows

abbrev pub decreases-loop-next : goal.decreases-loop-next
decreases-loop-next l = length (wanted l.file l.next)
