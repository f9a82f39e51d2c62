-- What the rows of a flat listing say, read from bytes; and what they are to tell of the unit starts of demand 3.
-- Assumes nothing.
use Rattle.std.specs.Prelude.{ℕ, zero, suc, ◌+◌, ◌<◌, List, [], ◌∷◌, ◌≡◌, length, get_or, drop}
use Rattle.numbers.specs.Numbers.{number}
use Rattle.timeline.specs.Design.{Design}
use Rattle.timeline.specs.Demand3.{Use, cycle, leaf_of}
use Rattle.timeline.specs.Flat.{Row, row_count}
use Rattle.timeline.specs.Listing.{no_row, row_number, number_of}

-- "Rows are 8 bytes: cycle in 4, unit in 2, component in 2."
abbrev pub read_start : List ℕ → Row
read_start bs = record { cycle = number 4 bs 0; unit = number 2 bs 4; component = number 2 bs 6 }

-- The rows that the first n times eight bytes say.
unfoldable pub read_starts : (n : ℕ) → List ℕ → List Row
read_starts zero bs = []
read_starts (suc n) bs = read_start bs ∷ read_starts n (drop 8 bs)

-- Every use of a leaf unit, for every start of the top, has a row among them, which says when it starts its unit, "these cycles added to each top start",
-- which unit that is, and of which component; and every row is that of a use of each start.
pub record TellTheStarts (D : Design) (top : ℕ) (S : ℕ → Type 0) (rows : List Row) : Type 0 where
  pub total : length rows ≡ row_count D top
  pub use_has_row : (u : Use D top S) → row_number D top S u < length rows
  pub row_cycle : (u : Use D top S) → cycle D top S u ≡ u.start + (get_or rows (row_number D top S u) no_row).cycle
  pub row_unit : (u : Use D top S) → (get_or rows (row_number D top S u) no_row).unit ≡ number_of D top S u
  pub row_component : (u : Use D top S) → (get_or rows (row_number D top S u) no_row).component ≡ leaf_of D top S u
  pub row_has_use : (t i : ℕ) → S t → i < length rows → (u : Use D top S) × (u.start ≡ t) × (row_number D top S u ≡ i)
