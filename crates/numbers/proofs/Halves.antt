-- A number in its two halves.
-- Assumes nothing.
use Prim.Native.Nat.{ℕ, ◌+◌, ◌*◌}
use mathlib.Core.Path.{◌≡◌, ap}
use mathlib.Core.List.{List}
use native.Mathlib.Omega.{arith}
use Rattle.numbers.specs.Numbers.{number}

module _ (s : List ℕ) (at : ℕ) where
  pub four_is : number 4 s at ≡ number 2 s at + 65536 * number 2 s (at + 2)
  four_is = let e = ap (number 2 s) (two_on at) in omega arith
    where
      two_on : (n : ℕ) → n + 1 + 1 ≡ n + 2
      two_on n = omega arith

  pub eight_is : number 8 s at ≡ number 4 s at + 4294967296 * number 4 s (at + 4)
  eight_is = let e = ap (number 4 s) (four_on at) in omega arith
    where
      four_on : (n : ℕ) → n + 1 + 1 + 1 + 1 ≡ n + 4
      four_on n = omega arith
