-- The record at hand is that of some invocation, and those before it are noted and counted.
use Rattle.std.proofs.Common.{◌-◌, ◌≡◌}
use Rattle.counting.specs.Known.{design}
use Rattle.counting.proofs.Calls.{Going}
use Rattle.counting.proofs.note_invocations.Given as goal

abbrev pub invariant-loop-i : goal.invariant-loop-i
invariant-loop-i l = record {
  going : Going (design l.judged) l.c l.at l.i l.end l.sum l.initial.notes.noted l.notes.noted;
  ends_kept : l.notes.ends ≡ l.initial.notes.ends;
}

abbrev pub decreases-loop-i : goal.decreases-loop-i
decreases-loop-i l = l.last - l.i
