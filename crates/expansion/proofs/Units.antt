-- The units before an invocation's instance, and those of the instance, are among the component's.
-- Assumes nothing.
use Prim.Native.Nat.{ℕ, zero, suc, ◌+◌, ◌≤◌, ◌<◌}
use mathlib.Core.Path.{◌≡◌, refl}
use native.Mathlib.Omega.{arith}
use native.Mathlib.Decide.{ℕ_discrete}
use lib.ListN.{length}
use Rattle.timeline.specs.Design.{Design, Class, leaf, built, class, instance_count, invocation_count, made_of, instance, invoked}
use Rattle.timeline.specs.Rules.{Lawful}
use Rattle.timeline.specs.Flat.{sum_below, unit_count, units_before}
use Rattle.timeline.proofs.Rows.{unit_count_built, units_before_sum}
use Rattle.expansion.specs.Noted.{capped}

-- Counts stopped on the way are stopped at the end, and otherwise whole.
pub capped_sum : (n : ℕ) (f g : ℕ → ℕ) → ((i : ℕ) → i < n → g i ≡ capped (f i)) → capped (sum_below n g) ≡ capped (sum_below n f)
capped_sum zero f g h = refl
capped_sum (suc n) f g h =
    let a = capped_sum n f g (λ i l. h i (omega arith)) in
    let b = h n (omega arith) in
    omega arith

part_within : (n m : ℕ) (f : ℕ → ℕ) → m < n → sum_below m f + f m ≤ sum_below n f
part_within zero m f h = absurd (omega arith)
part_within (suc n) m f h = go (ℕ_discrete m n) (λ l. part_within n m f l)
  where
    go : Dec (m ≡ n) → (m < n → sum_below m f + f m ≤ sum_below n f) → sum_below m f + f m ≤ sum_below n f + f n
    go (yes e) r = rw e (omega arith)
    go (no z) r = let b = r (omega arith) in omega arith

module _ {D : Design} (lawful : Lawful D) (c : ℕ) (h : c < length D) where
  -- A component with an invocation is built.
  pub invokes_built : (j : ℕ) → j < invocation_count D c → class D c ≡ built
  invokes_built j l = go (class D c) refl
    where
      go : (k : Class) → class D c ≡ k → class D c ≡ built
      go leaf e = let z = (lawful.whole c h).leaf_invocations e in absurd (omega arith)
      go built e = e

  module _ (j : ℕ) (l : j < invocation_count D c) where
    pub units_within : units_before D c j + unit_count D (invoked D c j) ≤ unit_count D c
    unfolding invoked
    units_within =
        let i = (lawful.rules c h).references.named j l in
        rw (unit_count_built lawful c h (invokes_built j l), units_before_sum lawful c h j) (part_within (instance_count D c) (instance D c j) (λ n. unit_count D (made_of D c n)) i)

    pub invoked_lower : invoked D c j < c
    unfolding invoked
    invoked_lower =
        let r = (lawful.rules c h).references in
        r.lower (instance D c j) (r.named j l)
