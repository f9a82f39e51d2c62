-- Rows of the flat listing as bytes. (01, Flat listing)
-- Assumes nothing.
use Rattle.std.specs.Prelude.{ℕ, ◌+◌, List, [], ◌∷◌, ◌++◌, length, take, drop}
use Rattle.numbers.specs.Numbers.{bytes}
use Rattle.timeline.specs.Flat.{Row}

-- "Rows are 8 bytes: cycle in 4, unit in 2, component in 2."
unfoldable pub row_bytes : Row → List ℕ
row_bytes r = bytes 4 r.cycle ++ bytes 2 r.unit ++ bytes 2 r.component

unfoldable pub rows_bytes : List Row → List ℕ
rows_bytes [] = []
rows_bytes (r ∷ rs) = row_bytes r ++ rows_bytes rs

-- The bytes `old` with `new` among them from a place on.
unfoldable pub pasted : (old : List ℕ) (at : ℕ) (new : List ℕ) → List ℕ
pasted old at new = take at old ++ new ++ drop (at + length new) old
