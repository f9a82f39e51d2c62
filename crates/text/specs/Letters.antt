-- The letters of a line of text, and where its words end. (docs/TEXT.md, A line)
-- Assumes nothing.
use Rattle.std.specs.Prelude.{ℕ, suc, ◌+◌, ◌-◌, min, cond, ◌&&◌, ◌||◌, List, [], ◌∷◌, length, get_or, drop, ltb, leb, eqb, Option, Some, None}
use Rattle.text.specs.declared.letters.Kind.{Kind}
use Rattle.text.specs.declared.letters.Kind.TheVariants.{Blank, Single, Comment, Letter}

-- 0 a blank: space, tab or carriage return; 1 a word by itself: `[`, `,` or `)`; 2 the start of a comment, `#`; 3 a letter of a longer word.
abbrev pub kind_of : ℕ → ℕ
kind_of b =
    cond (eqb b 32 || eqb b 9 || eqb b 13) 0
    (cond (eqb b 91 || eqb b 44 || eqb b 41) 1
    (cond (eqb b 35) 2 3))

-- The number of each kind that the code names.
abbrev pub number_of : Kind → ℕ
number_of Blank = 0
number_of Single = 1
number_of Comment = 2
number_of Letter = 3

-- How many bytes at the front are of this kind.
unfoldable pub run : (kind : ℕ) → List ℕ → ℕ
run kind [] = 0
run kind (b ∷ bs) = cond (eqb (kind_of b) kind) (suc (run kind bs)) 0

-- The first place, from `at` on, whose byte is of another kind; the end of the line where there is none.
abbrev pub past : List ℕ → (at kind : ℕ) → ℕ
past line at kind = min at (length line) + run kind (drop at line)

-- Where the word that starts here ends: a comment and the end of the line are empty words.
abbrev pub word_end : List ℕ → (start : ℕ) → ℕ
word_end line start =
    cond (ltb start (length line))
    (cond (eqb (kind_of (get_or line start 0)) 1) (start + 1)
    (cond (eqb (kind_of (get_or line start 0)) 3) (past line start 3) start))
    start

-- What a hexadecimal digit says, in either case of its letters.
abbrev pub hex : ℕ → Option ℕ
hex b =
    cond (leb 48 b && leb b 57) (Some (b - 48))
    (cond (leb 97 b && leb b 102) (Some (b - 87))
    (cond (leb 65 b && leb b 70) (Some (b - 55)) None))
