use Rattle.std.proofs.Common.{rules, None, slice_index_or}
use Rattle.parts.specs.Shown.{shown, cycles}
use Rattle.uses.specs.Seen as Seen
use Rattle.uses.proofs.Filled.{filled_below}
use Rattle.uses.proofs.Uses.arguments.Goals as goal

pub loop-j-preserved : goal.loop-j-preserved
loop-j-preserved c =
    (search rules, filled_below cycles (λ i. Seen.argument (shown c.args.self.now.component) c.args.instance c.args.input (slice_index_or c.args.self.now.invocations i None)) c.loop-j.there c.loop-j.j c.argument.result _ (search rules) c.loop-j.invariant.1 (search rules))
