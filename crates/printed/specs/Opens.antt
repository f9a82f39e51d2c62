-- A file that has been judged, to be printed.
-- Assumes nothing.
use Rattle.std.specs.Prelude.{ℕ, ◌≡◌, List, length}
use Rattle.answers.specs.Answer.{answer}
use Rattle.verdict.specs.Judgement.{judgement, Filled}
use Rattle.verdict.specs.declared.Opening.{Opening}

-- The verdict is that on this file, and the rows are those of its components.
abbrev pub Opens : List ℕ → Opening → Type 0
Opens file o = (answer o.verdict ≡ judgement file 64) × Filled (answer o.verdict) file o.rows × (length o.rows ≡ 320)
