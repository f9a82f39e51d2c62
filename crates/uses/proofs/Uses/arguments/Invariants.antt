use Rattle.std.proofs.Common.{◌≡◌, ◌<◌, ℕ, None, slice_index_or, length}
use Rattle.parts.specs.Shown.{shown}
use Rattle.uses.specs.Seen as Seen
use Rattle.uses.proofs.Uses.arguments.Given as goal

abbrev pub invariant-loop-j : goal.invariant-loop-j
invariant-loop-j l = (length l.there ≡ 64) × ((i : ℕ) → i < l.j → Seen.time l.there i ≡ Seen.argument (shown l.self.component) l.instance l.input (slice_index_or l.self.invocations i None))
