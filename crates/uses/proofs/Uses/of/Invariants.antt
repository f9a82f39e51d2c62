use Rattle.std.proofs.Common.{◌≡◌, ◌<◌, ℕ, None, slice_index_or, length}
use Rattle.std.specs.Option.{option_map}
use Rattle.parts.specs.Parts as Parts
use Rattle.parts.specs.Shown.{shown, used}
use Rattle.uses.proofs.Uses.of.Given as goal

abbrev pub invariant-loop-j : goal.invariant-loop-j
invariant-loop-j l = (length l.invocations ≡ 64) × ((i : ℕ) → i < l.j → option_map used (slice_index_or l.invocations i None) ≡ Parts.invocation (shown l.component) i)
