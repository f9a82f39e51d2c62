-- The test holds of every place passed.
use Rattle.std.proofs.Common.{◌≡◌, ℕ, Bool}
use Rattle.reading.specs.Tests.{every_below}
use Rattle.rules.specs.Each.{of_instance, Computes}
use Rattle.rules.proofs.Invocation.each.Given as goal

abbrev pub invariant-loop-j : goal.invariant-loop-j
invariant-loop-j g l =
    goal.F-IsAlwaysCallable g l.test
    × ((t : ℕ → Bool) → Computes (goal.F-post g l.test) t → l.kept ≡ every_below (of_instance l.instances l.offsets l.self.instance t) l.j)
