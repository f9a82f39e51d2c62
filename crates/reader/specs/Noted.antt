-- What the reader notes of the invocations beside the theory's state: bounds that spare it tests.
-- Assumes nothing.
use Rattle.std.specs.Prelude.{ℕ, ◌≤◌, ◌<◌, true, ◌≡◌, List, length, get_or}
use Rattle.reader.specs.declared.Reader.{Reader}

-- Records that are far below any number too great to divide.
abbrev pub Near : List ℕ → Type 0
Near firsts = (j : ℕ) → get_or firsts j 0 < 134000000

-- least, greatest: of each instance, what the offsets of its invocations lie between.
pub record Noted (r : Reader) (instances offsets firsts least greatest : List ℕ) : Type 0 where
  pub low : (j : ℕ) → j < r.place.invocations → get_or least (get_or instances j 0) 0 ≤ get_or offsets j 0
  pub high : (j : ℕ) → j < r.place.invocations → get_or offsets j 0 ≤ get_or greatest (get_or instances j 0) 0
  pub small : (j : ℕ) → j < r.place.invocations → get_or offsets j 0 < 1024
  -- "32 instances": what names none stands behind the invocations.
  pub unused : (j : ℕ) → r.place.invocations ≤ j → j < 64 → 32 ≤ get_or instances j 0
  pub near : Near firsts
  pub sizes : (length instances ≡ 64) × (length offsets ≡ 64) × (length firsts ≡ 64) × (length least ≡ 32) × (length greatest ≡ 32)
  pub built : 0 < r.place.due → r.place.built ≡ true
