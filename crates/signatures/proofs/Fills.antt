-- A table that is filled from the front with one row: after n turns it is `filled n v d`. And the place of a row of ten bytes fits.
-- Assumes nothing.
use mathlib.Core.Path.{◌≡◌, refl, sym, ap, subst, ◌∙◌}
use mathlib.Core.List.{List, [], ◌∷◌, ◌++◌, append-nil}
use Prim.Native.Nat.{ℕ, zero, suc, ◌+◌, ◌<◌, ◌≤◌, ◌*◌, ◌^◌}
use native.Mathlib.Nat.{not-suc-le-zero, le_of_suc-le-suc, le_antisymm}
use native.Mathlib.Numerals.{add-one}
use native.Mathlib.Omega.{arith}
use lib.ListN.{length, set, drop, replicate, length-append, length-replicate, length-drop}
use lib.Seq.{drop-length}

pub scaled : (i n : ℕ) → i < n → n * 10 < 2 ^ 63 → i * 10 < 2 ^ 64
scaled i n l h = omega arith

pub one_more : (i n : ℕ) → i < n → n < 2 ^ 64 → i + 1 < 2 ^ 64
one_more i n l h = omega arith

module _ {A : Type 0} where
  abbrev pub filled : ℕ → A → List A → List A
  filled n v d = replicate n v ++ drop n d

  fill_suc : (n : ℕ) (v : A) (d : List A) → n < length d → set (filled n v d) n v ≡ filled (suc n) v d
  fill_suc n v [] l = absurd (not-suc-le-zero l)
  fill_suc zero v (x ∷ d) l = refl
  fill_suc (suc n) v (x ∷ d) l = ap (λ (t : List A). v ∷ t) (fill_suc n v d (le_of_suc-le-suc l))

  pub fill_more : (n : ℕ) (v : A) (d : List A) → n < length d → set (filled n v d) n v ≡ filled (n + 1) v d
  fill_more n v d l = subst (λ (k : ℕ). set (filled n v d) n v ≡ filled k v d) (sym (add-one n)) (fill_suc n v d l)

  pub fill_all : (n : ℕ) (v : A) (d : List A) → n ≤ length d → length d ≤ n → filled n v d ≡ replicate (length d) v
  fill_all n v d le ge = subst (λ (k : ℕ). filled k v d ≡ replicate (length d) v) (le_antisymm ge le) (ap (λ (r : List A). replicate (length d) v ++ r) (drop-length d) ∙ append-nil (replicate (length d) v))

  pub fill_length : (n : ℕ) (v : A) (d : List A) → n ≤ length d → length (filled n v d) ≡ length d
  fill_length n v d le = simp (length-append, length-replicate, length-drop) (omega arith)
