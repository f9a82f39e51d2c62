-- What a refusal tells, by what a reader keeps: found after the fact, where a test has failed. (entry/specs/Told.antt)
-- Assumes nothing.
use Rattle.std.specs.Prelude.{ℕ}
use Rattle.answers.specs.Answer.{refusal, Refusal}
use Rattle.entry.specs.Records.{Record}
use Rattle.reading.specs.Reader.{View}

-- Of record x, number p, that fails the test with number n.
unfoldable pub told : View → (x : Record) → (p n : ℕ) → Refusal
told v x p n = refusal n p
