-- How the search for the end of the instances goes on and stops.
-- Assumes nothing.
use Prim.Native.Nat.{ℕ, suc, ◌+◌, ◌-◌, ◌<◌, ◌≤◌}
use mathlib.Core.Path.{◌≡◌}
use mathlib.Core.List.{List}
use mathlib.Core.Logic.{◌≢◌}
use native.Mathlib.Omega.{arith}
use native.Mathlib.Numerals.{add-one}
use borrow.Author.Tests.{eq-eqb, ne_eqb}
use Rattle.look.specs.Look.{kind}
use Rattle.groups.specs.Groups.{past_instances}

module _ (file : List ℕ) (n i : ℕ) where
  one_more : i < n → n - i ≡ suc (n - (i + 1))
  one_more l = omega arith

  pub instances_go_on : i < n → kind file i ≡ 3 → past_instances file (n - i) i ≡ past_instances file (n - (i + 1)) (i + 1)
  unfolding past_instances
  instances_go_on l e = rw (one_more l, add-one i, eq-eqb (kind file i) 3 e)

  pub instances_stop : i < n → kind file i ≢ 3 → past_instances file (n - i) i ≡ i
  unfolding past_instances
  instances_stop l d = rw (one_more l, ne_eqb (kind file i) 3 d)

  pub instances_end : n ≤ i → past_instances file (n - i) i ≡ i
  unfolding past_instances
  instances_end l = let z : n - i ≡ 0 = omega arith in rw z
