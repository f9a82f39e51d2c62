-- The search from here finds what the whole search does.
use Rattle.std.proofs.Common.{◌≡◌}
use Rattle.std.specs.Prelude.{drop}
use Rattle.parts.specs.Parts.{nth_from}
use Rattle.parts.proofs.nth.Given as goal

abbrev pub invariant-loop-i : goal.invariant-loop-i
invariant-loop-i l = nth_from l.kind l.n 0 l.records ≡ nth_from l.kind l.left l.i (drop l.i l.records)
