-- A list with one more at the end, or with its last one changed: its length, what stands where, and what holds of all.
-- Assumes nothing.
use Prim.Native.Nat.{ℕ, zero, suc, ◌<◌}
use Rattle.std.specs.Prelude.{◌≡◌, ◌≢◌, length, get_or}
use Rattle.std.proofs.Math.Path.{refl, ap}
use Rattle.std.proofs.Common.{sym, ◌∙◌}
use mathlib.Core.List.{List, [], ◌∷◌, ◌++◌, map}
use Rattle.std.proofs.Math.ListN.{length-append, get_or-append}
use Rattle.std.proofs.Math.Seq.{append_snoc}
use native.Mathlib.Omega.{arith}
use Rattle.std.proofs.Math.Decide.{ℕ_discrete}
use Rattle.entry.specs.Lists.{add_last, change_last}

pub none_in_empty : {A : Type 0} (xs : List A) (i : ℕ) → xs ≡ [] → i < length xs → ⊥
none_in_empty xs i e l = let z : length xs ≡ 0 = ap length e in omega arith

pub empty_of_length : {A : Type 0} (xs : List A) → length xs ≡ 0 → xs ≡ []
empty_of_length [] e = refl
empty_of_length (x ∷ xs) e = absurd (omega arith)

pub map_add_last : {A B : Type 0} (f : A → B) (xs : List A) (x : A) → map f (add_last xs x) ≡ map f xs ++ (f x ∷ [])
unfolding add_last
map_add_last f [] x = refl
map_add_last f (y ∷ xs) x = ap (f y ∷◌) (map_add_last f xs x)

pub add_last_append : {A : Type 0} (xs : List A) (x : A) (ys : List A) → add_last xs x ++ ys ≡ xs ++ x ∷ ys
unfolding add_last
add_last_append xs x ys = append_snoc xs x ys

pub change_last_add_last : {A : Type 0} (f : A → A) (xs : List A) (x : A) → change_last f (add_last xs x) ≡ add_last xs (f x)
unfolding change_last add_last
change_last_add_last f [] x = refl
change_last_add_last f (y ∷ []) x = refl
change_last_add_last f (y ∷ z ∷ xs) x = ap (y ∷◌) (change_last_add_last f (z ∷ xs) x)

module _ {A : Type 0} where
  pub length_add_last : (xs : List A) (x : A) → length (add_last xs x) ≡ suc (length xs)
  unfolding add_last
  length_add_last xs x = let e = length-append xs (x ∷ []) in omega arith

  pub at_old : (d : A) (xs : List A) (x : A) (i : ℕ) → i < length xs → get_or (add_last xs x) i d ≡ get_or xs i d
  unfolding add_last
  at_old d xs x i l = get_or-append xs (x ∷ []) d i l

  pub at_new : (d : A) (xs : List A) (x : A) → get_or (add_last xs x) (length xs) d ≡ x
  unfolding add_last
  at_new d [] x = refl
  at_new d (y ∷ xs) x = at_new d xs x

module _ {A : Type 0} (d : A) (f : A → A) where
  pub length_change_last : (xs : List A) → length (change_last f xs) ≡ length xs
  unfolding change_last
  length_change_last [] = refl
  length_change_last (x ∷ []) = refl
  length_change_last (x ∷ y ∷ xs) = ap suc (length_change_last (y ∷ xs))

  pub at_last : (xs : List A) (i : ℕ) → suc i ≡ length xs → get_or (change_last f xs) i d ≡ f (get_or xs i d)
  unfolding change_last
  at_last [] i e = absurd (omega arith)
  at_last (x ∷ []) zero e = refl
  at_last (x ∷ []) (suc i) e = absurd (omega arith)
  at_last (x ∷ y ∷ xs) zero e = absurd (omega arith)
  at_last (x ∷ y ∷ xs) (suc i) e = at_last (y ∷ xs) i (omega arith)

  pub at_before : (xs : List A) (i : ℕ) → suc i < length xs → get_or (change_last f xs) i d ≡ get_or xs i d
  unfolding change_last
  at_before [] i l = absurd (omega arith)
  at_before (x ∷ []) i l = absurd (omega arith)
  at_before (x ∷ y ∷ xs) zero l = refl
  at_before (x ∷ y ∷ xs) (suc i) l = at_before (y ∷ xs) i (omega arith)

module _ {A : Type 0} (d : A) where
  -- Of every element.
  abbrev pub Each : (A → Type 0) → List A → Type 0
  Each P xs = (i : ℕ) → i < length xs → P (get_or xs i d)

  -- Of every two different elements, whichever comes first.
  abbrev pub Pairs : (A → A → Type 0) → List A → Type 0
  Pairs P xs = (i j : ℕ) → i < length xs → j < length xs → i ≢ j → P (get_or xs i d) (get_or xs j d)

  module _ (P : A → Type 0) (xs : List A) (x : A) where
    pub each_more : Each P xs → P x → Each P (add_last xs x)
    each_more h n i l = go (ℕ_discrete i (length xs))
      where
        go : Dec (i ≡ length xs) → P (get_or (add_last xs x) i d)
        go (yes e) = rw (e, at_new d xs x) n
        go (no m) = let k : i < length xs = let z = length_add_last xs x in omega arith in rw (at_old d xs x i k) (h i k)

    pub each_less : Each P (add_last xs x) → Each P xs × P x
    each_less h =
        let z = length_add_last xs x in
        (λ i l. rw (at_old d xs x i l) at (h i (omega arith)), rw (at_new d xs x) at (h (length xs) (omega arith)))

  module _ (P : A → A → Type 0) (xs : List A) (x : A) where
    pub pairs_more : Pairs P xs → Each (λ a. P a x × P x a) xs → Pairs P (add_last xs x)
    pairs_more h n i j l k m = go (ℕ_discrete i (length xs)) (ℕ_discrete j (length xs))
      where
        old : (i : ℕ) → i < length (add_last xs x) → (i ≡ length xs → ⊥) → i < length xs
        old i l e = let z = length_add_last xs x in omega arith

        go : Dec (i ≡ length xs) → Dec (j ≡ length xs) → P (get_or (add_last xs x) i d) (get_or (add_last xs x) j d)
        go (yes e) (yes f) = absurd (m (e ∙ sym f))
        go (yes e) (no f) = rw (e, at_new d xs x, at_old d xs x j (old j k f)) (n j (old j k f)).1
        go (no e) (yes f) = rw (f, at_new d xs x, at_old d xs x i (old i l e)) (n i (old i l e)).0
        go (no e) (no f) = rw (at_old d xs x i (old i l e), at_old d xs x j (old j k f)) (h i j (old i l e) (old j k f) m)

    pub pairs_less : Pairs P (add_last xs x) → Pairs P xs × Each (λ a. P a x × P x a) xs
    pairs_less h =
        let z = length_add_last xs x in (
          λ i j l k m. rw (at_old d xs x i l, at_old d xs x j k) at (h i j (omega arith) (omega arith) m),
          λ i l. (
            rw (at_old d xs x i l, at_new d xs x) at (h i (length xs) (omega arith) (omega arith) (omega arith)),
            rw (at_old d xs x i l, at_new d xs x) at (h (length xs) i (omega arith) (omega arith) (omega arith)),
          ),
        )
