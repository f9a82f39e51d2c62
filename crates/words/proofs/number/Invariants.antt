-- The digits that are left, behind those that are passed, say what the word does.
use Rattle.std.proofs.Common.{◌≡◌, drop}
use Rattle.words.specs.Said.{said_from, said}
use Rattle.words.proofs.number.Given as goal

abbrev pub invariant-loop-b : goal.invariant-loop-b
invariant-loop-b l = said_from l.v (drop l.b-index l.word) ≡ said l.word
