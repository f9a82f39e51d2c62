-- The loop of `packing::put_blocks`: the blocks so far, and behind them the lent bytes as they were.
use Rattle.std.proofs.Common.{◌*◌, ◌≡◌, ◌++◌, drop}
use Rattle.packing.specs.Packed.{packed_to}
use Rattle.packing.proofs.put_blocks.Given as goal

abbrev pub invariant-loop-b : goal.invariant-loop-b
invariant-loop-b l = l.out ≡ packed_to l.list l.n l.b ++ drop (512 * l.b) l.fn.out
