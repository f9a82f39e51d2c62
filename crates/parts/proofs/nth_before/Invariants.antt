-- The search from here finds what the whole search does.
use Rattle.std.proofs.Common.{◌≡◌}
use Rattle.std.specs.Prelude.{drop}
use Rattle.parts.specs.Parts.{nth_from}
use Rattle.parts.proofs.Before.{before}
use Rattle.parts.proofs.nth_before.Given as goal

abbrev pub invariant-loop-i : goal.invariant-loop-i
invariant-loop-i l = nth_from l.kind l.n 0 (before l.records) ≡ nth_from l.kind l.skip l.i (before (drop l.i l.records))
