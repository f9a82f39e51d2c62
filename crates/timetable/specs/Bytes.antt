-- Rows as bytes. "Rows are 16 bytes, eight 16-bit numbers"; "numbers are little-endian". (01, Lowering; Blocks)
-- Assumes nothing.
use Rattle.std.specs.Prelude.{ℕ, zero, suc, ◌+◌, ◌*◌, ◌/◌, ◌%◌, ◌<◌, List, [], ◌∷◌, ◌++◌, get_or, drop}
use Rattle.timetable.specs.Lists.{Has}
use Rattle.timetable.specs.Rows.{Row, register, go, guard, out, numbers}

-- Each number as its low byte and its high byte.
unfoldable pub number_bytes : List ℕ → List ℕ
number_bytes [] = []
number_bytes (v ∷ vs) = v % 256 ∷ v / 256 ∷ number_bytes vs

unfoldable pub row_bytes : Row → List ℕ
row_bytes r = number_bytes (numbers r)

unfoldable pub rows_bytes : List Row → List ℕ
rows_bytes [] = []
rows_bytes (r ∷ rs) = row_bytes r ++ rows_bytes rs

-- Every number is a 16-bit number.
abbrev pub Fits : Row → Type 0
Fits r = (v : ℕ) → Has (numbers r) v → v < 65536

-- Number i of the bytes.
unfoldable pub number_at : List ℕ → ℕ → ℕ
number_at bs i = get_or bs (2 * i) 0 + 256 * get_or bs (2 * i + 1) 0

-- The row of kind k whose numbers are v, if there is such a kind.
abbrev pub row_of_kind : (k : ℕ) → (v : ℕ → ℕ) → List Row
row_of_kind zero v = []
row_of_kind (suc zero) v = register (v 1) (v 2) ∷ []
row_of_kind (suc (suc zero)) v = go (v 1) (v 2) (v 3) ∷ []
row_of_kind (suc (suc (suc zero))) v = guard (v 1) (v 2) (v 3) (v 4) (v 5) ∷ []
row_of_kind (suc (suc (suc (suc zero)))) v = out (v 1) (v 2) ∷ []
row_of_kind (suc (suc (suc (suc (suc k))))) v = []

-- The rows that the first m times sixteen bytes say.
unfoldable pub read_rows : (m : ℕ) → List ℕ → List Row
read_rows zero bs = []
read_rows (suc m) bs = row_of_kind (number_at bs 0) (number_at bs) ++ read_rows m (drop 16 bs)
