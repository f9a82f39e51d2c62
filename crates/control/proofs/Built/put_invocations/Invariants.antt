-- The rows of the invocations so far, and behind them the lent bytes as they were.
use Rattle.std.proofs.Common.{◌≡◌, ◌-◌, ◌*◌, ◌++◌, drop}
use Rattle.timetable.specs.Bytes.{rows_bytes}
use Rattle.control.specs.Stands.{rows_called}
use Rattle.control.proofs.Built.put_invocations.Given as goal

abbrev pub invariant-loop-u : goal.invariant-loop-u
invariant-loop-u l =
    record {
      may : (goal.iterator-loop-u).can_next l.u-iterator;
      same : l.u-iterator.of ≡ l.self;
      written : l.out ≡ rows_bytes (rows_called l.self l.u-iterator.number) ++ drop (16 * (l.u-iterator.record - l.self.invocations)) l.initial.out;
    }
