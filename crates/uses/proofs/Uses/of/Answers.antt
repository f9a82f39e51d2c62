use Rattle.std.proofs.Common.{rules, None}
use Rattle.std.specs.Option.{option_map}
use Rattle.parts.specs.Parts as Parts
use Rattle.parts.specs.Shown.{shown, used}
use Rattle.uses.proofs.Filled.{filled_below}
use Rattle.uses.proofs.Uses.of.Goals as goal

pub loop-j-preserved : goal.loop-j-preserved
loop-j-preserved c =
    (search rules, filled_below (option_map used) (λ i. Parts.invocation (shown c.args.component) i) c.loop-j.invocations c.loop-j.j c.invocation.result None (search rules) c.loop-j.invariant.1 c.invocation.ensures)
