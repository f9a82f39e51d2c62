-- The test of one place more.
use Rattle.std.proofs.Common.{rules, refl}
use Rattle.reading.specs.Tests.{every_below}
use Rattle.rules.proofs.Pairs.{one_more}
use Rattle.rules.proofs.Invocation.each.Goals as goal

pub loop-j-init : goal.loop-j-init
unfolding every_below
loop-j-init g c = (search rules, λ t e. refl)

pub loop-j-preserved : goal.loop-j-preserved
loop-j-preserved g c =
    (search rules, λ t e. one_more _ c.loop-j.j _ _ (c.loop-j.invariant.1 t e) (let p = e _ _ (search rules) c.test.ensures in rw p refl))
