-- How a refusal is printed: "`refused 11 at 12`, with its numbers". (01, Programs)
-- Assumes nothing.
use Rattle.std.specs.Prelude.{ℕ, List, ◌++◌, codes, decimal}
use Rattle.answers.specs.declared.Refusal.{Refusal}
use Rattle.answers.specs.Fault.{number}

abbrev pub refusal_text : Refusal → List ℕ
refusal_text r = codes "refused " ++ decimal (number r.fault) ++ codes " at " ++ decimal r.position
