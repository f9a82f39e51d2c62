-- The search from here finds what the whole search does.
use Rattle.std.proofs.Common.{◌-◌, ◌≡◌, ◌≤◌}
use Rattle.groups.specs.Groups.{past_instances}
use Rattle.groups.proofs.Judged.past_instances.Given as goal

abbrev pub invariant-loop-at : goal.invariant-loop-at
invariant-loop-at l = (l.self.records ≤ 3968) × (past_instances l.self.file.now (l.self.records - l.at) l.at ≡ past_instances l.self.file.now (l.self.records - l.i) l.i)
