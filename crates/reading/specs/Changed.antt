-- A table with one entry changed, the table being a function of a number.
-- Assumes nothing.
use Rattle.std.specs.Prelude.{ℕ, ◌<◌, Bool, ◌≡◌, eqb}
use Rattle.std.proofs.Math.Bool.{true, false, cond}
use Rattle.std.proofs.Math.Path.{refl}
use Rattle.std.proofs.Math.Dec.{T, eqb→eq, eqb_refl}
use Rattle.std.proofs.Common.{arith}

unfoldable pub changed : {A : Type 0} → (ℕ → A) → ℕ → A → ℕ → A
changed f n x i = cond (eqb i n) x (f i)

module _ {A : Type 0} (f : ℕ → A) (n : ℕ) (x : A) where
  pub changed_there : changed f n x n ≡ x
  unfolding changed
  changed_there = go (eqb n n) (eqb_refl n)
    where
      go : (b : Bool) → T b → cond b x (f n) ≡ x
      go true t = refl
      go false t = absurd t

  pub changed_below : (i : ℕ) → i < n → changed f n x i ≡ f i
  unfolding changed
  changed_below i l = go (eqb i n) (λ t. let e = eqb→eq i n t in omega arith)
    where
      go : (b : Bool) → ¬ (T b) → cond b x (f i) ≡ f i
      go true t = absurd (t tt)
      go false t = refl
