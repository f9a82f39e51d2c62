-- The loop of `packing::put_records`: the records so far, and behind them the lent bytes as they were.
use Rattle.std.proofs.Common.{◌≡◌, ◌++◌, length, drop}
use Rattle.packing.specs.Packed.{unpacked_to}
use Rattle.packing.proofs.put_records.Given as goal

abbrev pub invariant-loop-b : goal.invariant-loop-b
invariant-loop-b l = l.out ≡ unpacked_to l.file l.b ++ drop (length (unpacked_to l.file l.b)) l.fn.out
