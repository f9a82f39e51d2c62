-- The end of a list, where record by record a design grows.
-- Assumes nothing.
use Rattle.std.specs.Prelude.{List, [], ◌∷◌, ◌++◌}

-- One more at the end.
unfoldable pub add_last : {A : Type 0} → List A → A → List A
add_last xs x = xs ++ (x ∷ [])

-- The last one changed.
unfoldable pub change_last : {A : Type 0} → (A → A) → List A → List A
change_last f [] = []
change_last f (x ∷ []) = f x ∷ []
change_last f (x ∷ y ∷ xs) = x ∷ change_last f (y ∷ xs)
