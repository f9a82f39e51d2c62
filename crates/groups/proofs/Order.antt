-- The invocations of a component stand one behind the other, by record number.
-- Assumes nothing.
use Prim.Native.Nat.{ℕ, zero, suc, ◌+◌, ◌-◌, ◌≤◌}
use mathlib.Core.Path.{◌≡◌}
use native.Mathlib.Omega.{arith}
use native.Mathlib.Nat.{zero-add}
use Rattle.timeline.specs.Design.{Design, invocation_count}
use Rattle.entry.specs.Numbers.{invocation_number}

module _ (D : Design) (c : ℕ) where
  -- Invocation d further on stands at least d records further on.
  pub invocations_rise : (d j : ℕ) → invocation_number D c j + d ≤ invocation_number D c (d + j)
  unfolding invocation_number
  invocations_rise zero j = rw (zero-add j) (omega arith)
  invocations_rise (suc d) j =
      let h = invocations_rise d j in
      let e : suc d + j ≡ suc (d + j) = omega arith in
      rw e (omega arith)

  module _ (j : ℕ) (l : j ≤ invocation_count D c) where
    pub up_to_last : invocation_number D c j + (invocation_count D c - j) ≤ invocation_number D c (invocation_count D c)
    up_to_last =
        let e : invocation_count D c - j + j ≡ invocation_count D c = omega arith in
        rw e at (invocations_rise (invocation_count D c - j) j)

    -- Where the last one ends there is no other.
    pub none_behind : invocation_number D c (invocation_count D c) ≤ invocation_number D c j → j ≡ invocation_count D c
    none_behind k = let h = up_to_last in omega arith
