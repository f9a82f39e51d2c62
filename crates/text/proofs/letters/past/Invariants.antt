-- What `text::letters::past` has passed and the run that is left make the whole run.
use Rattle.std.proofs.Common.{◌+◌, ◌≡◌, drop}
use Rattle.text.specs.Letters.{number_of, run}
use Rattle.text.proofs.letters.past.Given as goal

abbrev pub invariant-loop-i : goal.invariant-loop-i
invariant-loop-i l = l.i + run (number_of l.k) (drop l.i l.line) ≡ l.at + run (number_of l.k) (drop l.at l.line)
