-- What a word of a command line says as a number.
-- Assumes nothing.
use Rattle.std.specs.Prelude.{ℕ, ◌+◌, ◌-◌, ◌*◌, Bool, cond, ◌&&◌, List, [], ◌∷◌, leb, Option, Some, None}

-- A digit behind digits that say v, where 64 bits hold what they say together.
abbrev pub goes_on : (v b : ℕ) → Bool
goes_on v b = leb 48 b && (leb b 57 && leb (10 * v + (b - 48)) 18446744073709551615)

abbrev pub with_digit : (v b : ℕ) → Option ℕ
with_digit v b = cond (goes_on v b) (Some (10 * v + (b - 48))) None

-- Digits behind digits that say v.
unfoldable pub said_from : (v : ℕ) → List ℕ → Option ℕ
said_from v [] = Some v
said_from v (b ∷ bs) = cond (goes_on v b) (said_from (10 * v + (b - 48)) bs) None

-- One digit or more.
abbrev pub said : List ℕ → Option ℕ
said [] = None
said (b ∷ bs) = said_from 0 (b ∷ bs)
