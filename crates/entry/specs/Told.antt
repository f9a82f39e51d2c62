-- What a refusal tells, found after the fact. (01, Answers)
-- Assumes nothing.
use Rattle.std.specs.Prelude.{ℕ}
use Rattle.answers.specs.Answer.{refusal, Refusal}
use Rattle.entry.specs.Records.{Record}
use Rattle.entry.specs.Entered.{Entered}

-- "A refusal hands back its number and position." Of what the records before say, e; the record x that breaks a rule, number p in the list;
-- and the rule's number n. Where the list ends incomplete, p is the "record count", and x is `wrong`: there is no record.
unfoldable pub told : (e : Entered) → (x : Record) → (p n : ℕ) → Refusal
told e x p n = refusal n p
