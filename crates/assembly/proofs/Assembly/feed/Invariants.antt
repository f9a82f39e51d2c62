-- What `assembly::Assembly::feed` has reached is what the bytes that it has passed lead to, and no record before is lost.
use Rattle.std.proofs.Common.{◌≡◌, take}
use Rattle.assembly.specs.Fed.{reached, fed, Grown}
use Rattle.assembly.proofs.Assembly.feed.Given as goal

abbrev pub invariant-loop-b : goal.invariant-loop-b
invariant-loop-b l = (reached l.self ≡ fed (reached l.initial.self) (take l.b-index l.chunk)) × Grown l.initial.self.list.items l.self.list.items
