-- Lists by number that agree below their length are the same.
-- Assumes nothing.
use Prim.Native.Nat.{ℕ, zero, suc, ◌<◌}
use mathlib.Core.Path.{◌≡◌, refl}
use native.Mathlib.Omega.{arith}
use Rattle.timetable.specs.Lists.{list_below}

pub list_same : {A : Type 0} (n : ℕ) (f g : ℕ → A) → ((i : ℕ) → i < n → f i ≡ g i) → list_below n f ≡ list_below n g
list_same zero f g h = refl
list_same (suc n) f g h = rw (list_same n f g (λ i l. h i (omega arith)), h n (omega arith))
