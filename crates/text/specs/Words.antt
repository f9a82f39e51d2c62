-- The word that a reader of a line comes to next, and what it says. (docs/TEXT.md, A line)
-- Assumes nothing.
use Rattle.std.specs.Prelude.{ℕ, ◌+◌, ◌*◌, cond, List, [], ◌∷◌, Option, Some, None, is_some, slice_range}
use Rattle.words.specs.Said.{said}
use Rattle.text.specs.Letters.{past, word_end, hex}

-- Where it ends; the reader goes on from there.
abbrev pub next_end : List ℕ → (at : ℕ) → ℕ
next_end line at = word_end line (past line at 0)

-- The word itself; empty where the line has no word more.
abbrev pub next_word : List ℕ → (at : ℕ) → List ℕ
next_word line at = slice_range line (past line at 0) (next_end line at)

-- The number that it says.
abbrev pub next_number : List ℕ → (at : ℕ) → Option ℕ
next_number line at = said (next_word line at)

-- Past a number that stands there; where none does, the reader stays.
abbrev pub past_number : List ℕ → (at : ℕ) → ℕ
past_number line at = cond (is_some (next_number line at)) (next_end line at) at

-- What two digits say, the higher one first.
abbrev pub both : (high low : Option ℕ) → Option ℕ
both (Some high) (Some low) = Some (16 * high + low)
both (Some high) None = None
both None low = None

-- A byte is a word of exactly two hexadecimal digits.
abbrev pub byte_of : List ℕ → Option ℕ
byte_of [] = None
byte_of (high ∷ []) = None
byte_of (high ∷ (low ∷ [])) = both (hex high) (hex low)
byte_of (high ∷ (low ∷ (b ∷ bs))) = None

abbrev pub next_byte : List ℕ → (at : ℕ) → Option ℕ
next_byte line at = byte_of (next_word line at)
