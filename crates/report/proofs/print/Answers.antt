-- The output that is lent is the one that was just made, and what is left of it is what the call left.
use Rattle.std.proofs.Common.{refl, rules}
use Rattle.report.proofs.print.Goals as goal

pub returns : goal.returns
returns g c = (
  c.to-out.result,
  c.f-result.new.arg2,
  search rules,
  record { shown = _; shows = refl; left = _; met = c.f-result.ensures; leaves = refl },
)
