-- The greatest so far covers the own ports and the invocations so far, and is not above n.
use Rattle.std.proofs.Common.{◌≡◌}
use Rattle.control.specs.Stands.{design}
use Rattle.control.proofs.Reached.{Reached}
use Rattle.control.proofs.Built.states.Given as goal

abbrev pub invariant-loop-u : goal.invariant-loop-u
invariant-loop-u l =
    record {
      may : (goal.iterator-loop-u).can_next l.u-iterator;
      same : l.u-iterator.of ≡ l.self;
      reached : Reached (design l.self) l.self.number l.u-iterator.number l.most;
    }
