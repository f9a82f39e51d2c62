-- So many components in order: the next one, or nothing; and what is wanted of an instance.
-- Assumes nothing.
use Prim.Native.Nat.{ℕ, suc, ◌+◌, ◌-◌, ◌*◌, ◌/◌, ◌≤◌, ◌<◌}
use mathlib.Core.Bool.{Bool, true, false, ◌||◌}
use mathlib.Core.Path.{◌≡◌, refl, sym, ◌∙◌}
use mathlib.Core.List.{List, [], ◌∷◌}
use native.Mathlib.Omega.{arith}
use lib.ListN.{length}
use lib.Dec.{leb}
use borrow.Author.Tests.{leb-false}
use Rattle.component.specs.declared.Following.{Following}
use Rattle.component.specs.Ahead.{ahead}
use Rattle.component.specs.Wanted.{in_order, Sound}

pub in_order_more : (c n : ℕ) → c < n → in_order (n - c) c ≡ c ∷ in_order (n - (c + 1)) (c + 1)
unfolding in_order
in_order_more c n l = let e : n - c ≡ suc (n - (c + 1)) = omega arith in let f : c + 1 ≡ suc c = omega arith in rw (e, f)

pub in_order_end : (c n : ℕ) → n ≤ c → in_order (n - c) c ≡ []
unfolding in_order
in_order_end c n l = let e : n - c ≡ 0 = omega arith in rw e

-- A component and a place that are not too large.
pub small_component : (a b : Bool) (c place : ℕ) → (a || (leb 64 c || leb 32 place)) ≡ false → (c < 64) × (place < 32)
small_component true b c place e = absurd (let z : ◌≡◌ {A = ℕ} 0 1 = cc in omega arith)
small_component false b c place e = by_number (leb 64 c) refl
  where
    by_number : (d : Bool) → leb 64 c ≡ d → (c < 64) × (place < 32)
    by_number true y = absurd (let z : ◌≡◌ {A = ℕ} 0 1 = cc in omega arith)
    by_number false y = (leb-false 64 c y, leb-false 32 place (let z : (false || leb 32 place) ≡ false = rw y at e in z))

-- The component of instance i is wanted, and what follows it.
pub instance_there : (file : List ℕ) (n at i c place : ℕ) → i < n → n ≤ 3968 → n ≤ 31 * (length file / 512) → c < 64 → place < 32 → ahead file (n - i) i place ≡ c ∷ ahead file (n - (i + 1)) (i + 1) (place + 1) → ahead file (n - i) i place ≡ ahead file (n - at) at place
    → Sound file (record { component = c; place = place; following = Following.Instances (i + 1) n }) × (c ∷ ahead file (n - (i + 1)) (i + 1) (place + 1) ≡ ahead file (n - at) at place)
instance_there file n at i c place l few within b p e f =
    (record { below = b; place = omega arith; follows = (omega arith, few, within) }, sym e ∙ f)
