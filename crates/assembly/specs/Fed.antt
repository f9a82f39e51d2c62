-- How far a text has been read, byte by byte: which line is the present one, what it holds so far, and how many bytes of records the lines
-- before it say. Which records they are is not said here. (docs/TEXT.md)
-- Assumes nothing.
use Rattle.std.specs.Prelude.{ℕ, suc, ◌+◌, min, cond, List, [], ◌∷◌, ◌++◌, length, take, get_or, eqb, ◌≡◌, ◌<◌, ◌≤◌}
use Rattle.arrayvec.specs.ArrayVec.{array_vec_len}
use Rattle.text.specs.Words.{next_word}
use Rattle.assembly.specs.declared.Assembly.{Assembly}

pub record Reached : Type 0 where
  pub line : ℕ
  pub present : List ℕ
  pub bytes : ℕ

abbrev pub reached : Assembly → Reached
reached a = record { line = a.line; present = a.present.items; bytes = array_vec_len a.list }

-- The bytes of the record that a line says: sixteen, unless it has no word.
abbrev pub said_by : List ℕ → ℕ
said_by line = cond (eqb (length (next_word line 0)) 0) 0 16

-- The present line read to its end; it is still the present one.
abbrev pub closed : Reached → Reached
closed r = record { line = r.line; present = r.present; bytes = r.bytes + said_by r.present }

abbrev pub next_line : Reached → Reached
next_line r = record { line = min (suc r.line) 4294967295; present = []; bytes = r.bytes }

-- One byte more.
unfoldable pub taken : Reached → ℕ → Reached
taken r b = cond (eqb b 10) (next_line (closed r)) (record { line = r.line; present = r.present ++ b ∷ []; bytes = r.bytes })

unfoldable pub fed : Reached → List ℕ → Reached
fed r [] = r
fed r (b ∷ bs) = fed (taken r b) bs

-- A list that begins with what it was before.
unfoldable pub Grown : (old new : List ℕ) → Type 0
Grown old new = (more : List ℕ) × (new ≡ old ++ more)

-- Which byte may be refused here: a line end where the line has a word, and any other byte where the line is full.
unfoldable pub MayRefuse : Reached → ℕ → Type 0
MayRefuse r b = cond (eqb b 10) (said_by r.present ≡ 16) (4096 ≤ length r.present)

-- Where a text is refused: at one of these bytes, behind what those before it lead to.
unfoldable pub Stopped : (from : Reached) → List ℕ → (now : Reached) → Type 0
Stopped from bs now = (k : ℕ) × (k < length bs) × (now ≡ fed from (take k bs)) × MayRefuse now (get_or bs k 0)
