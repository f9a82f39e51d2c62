-- The number that a refusal tells.
-- Assumes nothing.
use Rattle.std.specs.Prelude.{ℕ, ◌≡◌, refl}
use Rattle.entry.specs.Records.{Record}
use Rattle.reading.specs.Reader.{View}
use Rattle.reading.specs.Told.{told}

-- Its number is the test's.
pub told_number : (v : View) (x : Record) (p n : ℕ) → (told v x p n).number ≡ n
unfolding told
told_number v x p n = refl
