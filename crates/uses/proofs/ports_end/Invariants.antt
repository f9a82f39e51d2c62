use Rattle.std.proofs.Common.{◌≡◌}
use Rattle.parts.specs.Shown.{shown}
use Rattle.uses.specs.Seen.{ends_below}
use Rattle.uses.proofs.ports_end.Given as goal

abbrev pub invariant-loop-n : goal.invariant-loop-n
invariant-loop-n l = l.end ≡ ends_below (shown l.component) l.n
