-- "Numbers are little-endian."
-- Assumes nothing.
use Rattle.std.specs.Prelude.{ℕ, zero, suc, ◌+◌, ◌*◌, ◌/◌, ◌%◌, ◌<◌, List, [], ◌∷◌, Bool, true, ◌&&◌, length, get_or, eqb}

-- The number in the w bytes of s from place `at` on.
abbrev pub number : (w : ℕ) → List ℕ → ℕ → ℕ
number zero s at = 0
number (suc w) s at = get_or s at 0 + 256 * number w s (at + 1)

-- The lowest w bytes of x.
abbrev pub bytes : (w x : ℕ) → List ℕ
bytes zero x = []
bytes (suc w) x = x % 256 ∷ bytes w (x / 256)

abbrev pub all_zero : List ℕ → Bool
all_zero [] = true
all_zero (b ∷ s) = eqb b 0 && all_zero s

-- Every element of l is a byte.
abbrev pub Bytes : List ℕ → Type 0
Bytes l = (i : ℕ) → i < length l → get_or l i 0 < 256
