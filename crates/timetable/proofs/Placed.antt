-- Lists in which every element tells its place: each stands once, and where it says.
-- Assumes nothing.
use Rattle.std.specs.Prelude.{ℕ, zero, suc, ◌+◌, ◌<◌, ◌≡◌, List, [], ◌∷◌, ◌++◌, length, get_or}
use Rattle.std.proofs.Common.{ap, arith}
use Rattle.timetable.specs.Lists.{Has, list_below}
use Rattle.timetable.proofs.Lists.{length_list, at_some}

module _ {A : Type 0} (place : A → ℕ) where
  -- The places rise by one, from b.
  abbrev pub Placed : ℕ → List A → Type 0
  Placed b [] = Unit
  Placed b (x ∷ xs) = (place x ≡ b) × Placed (suc b) xs

  pub placed_append : (b m : ℕ) (xs ys : List A) → Placed b xs → b + length xs ≡ m → Placed m ys → Placed b (xs ++ ys)
  placed_append b m [] ys p e q = let z : m ≡ b = omega arith in rw z at q
  placed_append b m (x ∷ xs) ys p e q = (p.0, placed_append (suc b) m xs ys p.1 (omega arith) q)

  pub placed_list : (b n : ℕ) (f : ℕ → A) → ((i : ℕ) → place (f i) ≡ b + i) → Placed b (list_below n f)
  placed_list b zero f h = tt
  placed_list b (suc n) f h =
      let e = length_list n f in
      placed_append b (b + n) (list_below n f) (f n ∷ []) (placed_list b n f h) (omega arith) (h n, tt)

  pub placed_at : (b : ℕ) (xs : List A) (d : A) (i : ℕ) → Placed b xs → i < length xs → place (get_or xs i d) ≡ b + i
  placed_at b [] d i p l = absurd (omega arith)
  placed_at b (x ∷ xs) d zero p l = omega (arith, p.0)
  placed_at b (x ∷ xs) d (suc i) p l = let h = placed_at (suc b) xs d i p.1 (omega arith) in omega arith

  -- What the list has stands in its place.
  pub placed_there : (b : ℕ) (xs : List A) (d x : A) (i : ℕ) → Placed b xs → Has xs x → place x ≡ b + i → (i < length xs) × (get_or xs i d ≡ x)
  placed_there b xs d x i p m e =
      let r = at_some d m in
      let y = placed_at b xs d r.0 p r.1 in
      let z : place (get_or xs r.0 d) ≡ place x = ap place r.2 in
      let w : i ≡ r.0 = omega arith in
      rw w (r.1, r.2)
