-- The first rule in the table's order that is not kept: there is one exactly where some rule is broken, and no two.
-- Assumes nothing.
use Rattle.std.specs.Prelude.{ℕ, ◌≡◌, refl, [], ◌∷◌, ◌⊎◌}
use Rattle.std.proofs.Common.{inl, inr, ⊎_elim}
use Rattle.entry.specs.Asks.{Asks}
use Rattle.entry.specs.Answers.{Broken, FirstBroken}
use Rattle.entry.proofs.Good.{Keeps}

pub kept_unbroken : (l : Asks) → Keeps l → (m : ℕ) → ¬ (Broken l m)
unfolding Broken
kept_unbroken [] k m b = b
kept_unbroken (a ∷ l) k m b = ⊎_elim (λ x. x.1 k.0) (kept_unbroken l k.1 m) b

pub first_here : (a : ℕ × Type 0) (l : Asks) → ¬ a.1 → FirstBroken (a ∷ l) a.0
unfolding FirstBroken
first_here a l n = inl (refl, n)

pub first_later : (a : ℕ × Type 0) (l : Asks) (n : ℕ) → a.1 → FirstBroken l n → FirstBroken (a ∷ l) n
unfolding FirstBroken
first_later a l n y h = inr (y, h)

pub first_broken : (l : Asks) (n : ℕ) → FirstBroken l n → Broken l n
unfolding FirstBroken Broken
first_broken [] n b = b
first_broken (a ∷ l) n b = ⊎_elim inl (λ x. inr (first_broken l n x.1)) b

pub one_first : (l : Asks) (n m : ℕ) → FirstBroken l n → FirstBroken l m → n ≡ m
unfolding FirstBroken
one_first [] n m b c = absurd b
one_first (a ∷ l) n m b c = go (one_first l n m) b c
  where
    go : (FirstBroken l n → FirstBroken l m → n ≡ m) → ((n ≡ a.0) × (¬ a.1)) ⊎ (a.1 × FirstBroken l n) → ((m ≡ a.0) × (¬ a.1)) ⊎ (a.1 × FirstBroken l m) → n ≡ m
    go same (inl x) (inl y) = let p = x.0 in let q = y.0 in cc
    go same (inl x) (inr y) = absurd (x.1 y.0)
    go same (inr x) (inl y) = absurd (y.1 x.0)
    go same (inr x) (inr y) = same x.1 y.1
