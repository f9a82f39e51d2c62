-- The latest end of the ports so far.
use Rattle.std.proofs.Common.{◌≡◌}
use Rattle.rows.specs.Rows.{latest}
use Rattle.rows.proofs.latest.Given as goal

abbrev pub invariant-loop-p : goal.invariant-loop-p
invariant-loop-p l = l.most ≡ latest l.file l.i l.p
