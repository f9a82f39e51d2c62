-- The units of the instances before the one in record i are counted.
use Rattle.std.proofs.Common.{◌-◌}
use Rattle.counting.specs.Known.{design}
use Rattle.counting.proofs.Turns.{Counted}
use Rattle.counting.proofs.count_units.Given as goal

abbrev pub invariant-loop-i : goal.invariant-loop-i
invariant-loop-i l = Counted (design l.judged) l.c (l.i - l.first) l.sum l.before
