-- How the search for the n-th record of a kind goes on and stops.
use Rattle.std.proofs.Common.{◌≡◌, ◌+◌, ◌-◌, ◌<◌, ◌≤◌, length, Some, None, ℕ, true, false, List, [], ◌∷◌, slice_index_or}
use Prim.Native.Nat.{zero, suc}
use mathlib.Core.Logic.{◌≢◌}
use mathlib.Core.Path.{refl}
use native.Mathlib.Omega.{arith}
use native.Mathlib.Numerals.{add-one}
use Rattle.std.specs.Prelude.{drop}
use Rattle.std.proofs.Math.Seq.{drop-cons}
use Rattle.std.proofs.lemmas.List.{drop_all}
use Rattle.parts.specs.declared.kind.Kind.{Kind}
use Rattle.parts.specs.Parts.{is_of, nth_from}

module _ (k : Kind) (records : List (List ℕ)) (i : ℕ) where
  pub split : i < length records → drop i records ≡ slice_index_or records i [] ∷ drop (i + 1) records
  split l = rw (add-one i) (drop-cons records i [] l)

  pub search_stops : i < length records → is_of k (slice_index_or records i []) ≡ true → nth_from k 0 i (drop i records) ≡ Some i
  unfolding nth_from
  search_stops l e = rw (split l, e)

  pub search_passes : (n : ℕ) → i < length records → is_of k (slice_index_or records i []) ≡ false → nth_from k n i (drop i records) ≡ nth_from k n (i + 1) (drop (i + 1) records)
  unfolding nth_from
  search_passes zero l e = rw (split l, e)
  search_passes (suc n) l e = rw (split l, e)

  pub search_counts : (n : ℕ) → n ≢ 0 → i < length records → is_of k (slice_index_or records i []) ≡ true → nth_from k n i (drop i records) ≡ nth_from k (n - 1) (i + 1) (drop (i + 1) records)
  unfolding nth_from
  search_counts zero d l e = absurd (d refl)
  search_counts (suc n) d l e = let z : suc n - 1 ≡ n = omega arith in rw (split l, e, z)

  pub search_ends : (n : ℕ) → length records ≤ i → nth_from k n i (drop i records) ≡ None
  unfolding nth_from
  search_ends n l = rw (drop_all i records l)
