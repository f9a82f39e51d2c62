-- How the reading of a file's records starts.
-- Assumes nothing.
use Rattle.std.specs.Prelude.{ℕ, ◌≤◌, ◌≡◌, List, Result, Ok, Err}
use Rattle.answers.specs.declared.Refusal.{Refusal}
use Rattle.answers.specs.Fault.{number}
use Rattle.answers.specs.Answer.{accepted, refused, refusal}
use Rattle.blocks.specs.File.{sound}
use Rattle.verdict.specs.Judgement.{judgement}

module _ (file : List ℕ) (rows : ℕ) where
  -- The records are counted, and none has been read.
  pub record Started (n : ℕ) : Type 0 where
    pub enough : 64 ≤ rows
    pub counted : sound file ≡ accepted n

  -- Where it does not start, the table is too short, or a block is wrong.
  abbrev pub Starts : Result ℕ Refusal → Type 0
  Starts (Ok n) = Started n
  Starts (Err r) = judgement file rows ≡ refused (refusal (number r.fault) r.position)
