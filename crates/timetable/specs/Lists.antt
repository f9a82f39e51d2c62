-- Lists by number, and the greatest of a list.
-- Assumes nothing.
use Rattle.std.specs.Prelude.{ℕ, max}
use mathlib.Core.List.{List, [], ◌∷◌, Memᴰ}
use Rattle.timeline.specs.Flat.{join_below}

-- x stands somewhere in the list.
abbrev pub Has : {A : Type 0} → List A → A → Type 0
Has xs x = Memᴰ x xs

-- f 0 ∷ f 1 ∷ .. ∷ f (n − 1) ∷ []
abbrev pub list_below : {A : Type 0} → ℕ → (ℕ → A) → List A
list_below n f = join_below n (λ i. f i ∷ [])

-- The greatest of a list, and 0 of none.
unfoldable pub greatest : List ℕ → ℕ
greatest [] = 0
greatest (x ∷ xs) = max x (greatest xs)
