-- What a record behind the list reads.
use Rattle.std.proofs.Common.{◌≡◌, ◌+◌, ◌-◌, ◌<◌, ◌≤◌, length, ℕ}
use mathlib.Core.Logic.{inl, inr}
use mathlib.Core.Path.{ap}
use native.Mathlib.Omega.{arith}
use Rattle.std.specs.Prelude.{min, ◌^◌}
use Rattle.std.proofs.lemmas.Option.{slice_get_past, slice_get_cases}
use Rattle.parts.specs.Parts.{Component, reads}

module _ (C : Component) where
  same_behind : (r s : ℕ) → length C.list ≤ r → length C.list ≤ s → reads C r ≡ reads C s
  unfolding reads
  same_behind r s l m = rw (slice_get_past C.list r l, slice_get_past C.list s m)

  -- A place that no `usize` holds is behind every list.
  pub reads_saturating : length C.list ≤ 3968 → (p i a b : ℕ) → a ≡ min (p + 1) (2 ^ 64 - 1) → b ≡ min (a + i) (2 ^ 64 - 1) → reads C b ≡ reads C (p + 1 + i)
  reads_saturating few p i a b e f = elim (slice_get_cases C.list (p + 1 + i)).1 [
    | inl w ↦ let inside : p + 1 + i < length C.list = w.1 in let z : b ≡ p + 1 + i = omega arith in ap (reads C) z
    | inr w ↦ let behind : length C.list ≤ p + 1 + i = w.0 in same_behind b (p + 1 + i) (omega arith) behind
  ]
