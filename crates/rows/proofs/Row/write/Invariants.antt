-- The numbers so far, and behind them the lent bytes as they were.
use Rattle.std.proofs.Common.{◌≡◌, ◌*◌, ◌++◌, take, drop}
use Rattle.timetable.specs.Bytes.{number_bytes}
use Rattle.rows.proofs.Row.write.Given as goal

abbrev pub invariant-loop-i : goal.invariant-loop-i
invariant-loop-i l = l.out ≡ number_bytes (take l.i l.number-items) ++ drop (2 * l.i) l.initial.out
