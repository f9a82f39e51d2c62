-- How the search for the n-th record of a kind before the next component goes on and stops.
use Rattle.std.proofs.Common.{◌≡◌, ◌+◌, ◌-◌, ◌<◌, ◌≤◌, length, Some, None, ℕ, true, false, List, [], ◌∷◌, slice_index_or, ltb, tests, cond}
use Prim.Native.Nat.{zero, suc}
use mathlib.Core.Logic.{◌≢◌}
use mathlib.Core.Path.{refl}
use native.Mathlib.Omega.{arith}
use Rattle.std.specs.Prelude.{drop, position}
use Rattle.std.specs.List.{position_or_len}
use Rattle.std.proofs.lemmas.List.{drop_all}
use Rattle.parts.specs.declared.kind.Kind.{Kind}
use Rattle.parts.specs.Parts.{is_of, nth_from, up_to}
use Rattle.parts.proofs.Places.{split}

-- The records before the next component.
abbrev pub before : List (List ℕ) → List (List ℕ)
before records = up_to (position (is_of Kind.Component) records) records

module _ (x : List ℕ) (xs : List (List ℕ)) where
  at_next : is_of Kind.Component x ≡ true → before (x ∷ xs) ≡ []
  at_next e = rw e (grind (arith, tests))

  behind_other : is_of Kind.Component x ≡ false → before (x ∷ xs) ≡ x ∷ before xs
  behind_other e = rw e (by (position_or_len (is_of Kind.Component) xs))
    where
      by : (m : ℕ) → up_to (cond (ltb (1 + m) (length (x ∷ xs))) (Some (1 + m)) None) (x ∷ xs) ≡ x ∷ up_to (cond (ltb m (length xs)) (Some m) None) xs
      by m = grind (arith, tests)

module _ (k : Kind) (records : List (List ℕ)) (i : ℕ) where
  ended : i < length records → is_of Kind.Component (slice_index_or records i []) ≡ true → before (drop i records) ≡ []
  ended l e = rw (split k records i l, at_next (slice_index_or records i []) (drop (i + 1) records) e)

  going_on : i < length records → is_of Kind.Component (slice_index_or records i []) ≡ false → before (drop i records) ≡ slice_index_or records i [] ∷ before (drop (i + 1) records)
  going_on l e = rw (split k records i l, behind_other (slice_index_or records i []) (drop (i + 1) records) e)

  pub here_stops : (n : ℕ) → i < length records → is_of Kind.Component (slice_index_or records i []) ≡ true → nth_from k n i (before (drop i records)) ≡ None
  unfolding nth_from
  here_stops n l e = rw (ended l e)

  pub here_found : i < length records → is_of Kind.Component (slice_index_or records i []) ≡ false → is_of k (slice_index_or records i []) ≡ true → nth_from k 0 i (before (drop i records)) ≡ Some i
  unfolding nth_from
  here_found l o e = rw (going_on l o, e)

  pub here_passes : (n : ℕ) → i < length records → is_of Kind.Component (slice_index_or records i []) ≡ false → is_of k (slice_index_or records i []) ≡ false → nth_from k n i (before (drop i records)) ≡ nth_from k n (i + 1) (before (drop (i + 1) records))
  unfolding nth_from
  here_passes zero l o e = rw (going_on l o, e)
  here_passes (suc n) l o e = rw (going_on l o, e)

  pub here_counts : (n : ℕ) → n ≢ 0 → i < length records → is_of Kind.Component (slice_index_or records i []) ≡ false → is_of k (slice_index_or records i []) ≡ true → nth_from k n i (before (drop i records)) ≡ nth_from k (n - 1) (i + 1) (before (drop (i + 1) records))
  unfolding nth_from
  here_counts zero d l o e = absurd (d refl)
  here_counts (suc n) d l o e = let z : suc n - 1 ≡ n = omega arith in rw (going_on l o, e, z)

  pub here_ends : (n : ℕ) → length records ≤ i → nth_from k n i (before (drop i records)) ≡ None
  unfolding nth_from
  here_ends n l = rw (drop_all i records l)
