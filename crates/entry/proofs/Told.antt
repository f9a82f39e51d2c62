-- The number that a refusal tells.
-- Assumes nothing.
use Rattle.std.specs.Prelude.{ℕ, ◌≡◌, refl}
use Rattle.entry.specs.Records.{Record}
use Rattle.entry.specs.Entered.{Entered}
use Rattle.entry.specs.Told.{told}

-- Its number is the rule's.
pub told_number : (e : Entered) (x : Record) (p n : ℕ) → (told e x p n).number ≡ n
unfolding told
told_number e x p n = refl
