-- A list that is filled place by place.
use Rattle.std.proofs.Common.{◌≡◌, ◌+◌, ◌<◌, ℕ, List, length, slice_index_or, slice_set}
use mathlib.Core.Logic.{inl, inr}
use native.Mathlib.Omega.{arith}
use Rattle.std.proofs.lemmas.Bool.Decides.{eqb_tells}
use Rattle.std.proofs.lemmas.List.{get_or-set_other}
use Rattle.std.proofs.lemmas.Grind.{get_or-set_at}

module _ {X Y : Type 0} (f : X → Y) (g : ℕ → Y) where
  pub filled_below : (xs : List X) (j : ℕ) (x d : X) → j < length xs → ((i : ℕ) → i < j → f (slice_index_or xs i d) ≡ g i) → f x ≡ g j
      → (i : ℕ) → i < j + 1 → f (slice_index_or (slice_set xs j x) i d) ≡ g i
  filled_below xs j x d l before here i m = elim (eqb_tells i j) [
    | inl w ↦ rw (get_or-set_at xs j i x d w.1 l, w.1) here
    | inr w ↦ rw (get_or-set_other xs j i x d w.1) (before i (omega arith))
  ]
