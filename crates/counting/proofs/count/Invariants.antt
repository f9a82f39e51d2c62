-- The components before number c are known.
use Rattle.counting.specs.Known.{design, Known}
use Rattle.counting.proofs.count.Given as goal

abbrev pub invariant-loop-c : goal.invariant-loop-c
invariant-loop-c l = Known (design l.judged) l.c l.totals
