-- Bytes that are all zero.
-- Assumes nothing.
use Prim.Native.Nat.{ℕ, zero, suc, ◌+◌, ◌*◌, ◌≤◌}
use mathlib.Core.Path.{◌≡◌, refl, ap}
use mathlib.Core.List.{List, [], ◌∷◌, ◌++◌}
use mathlib.Core.Bool.{Bool, true, false, ◌&&◌}
use native.Mathlib.Omega.{arith}
use native.Mathlib.Numerals.{add-one}
use lib.ListN.{length, get_or, take, drop, replicate}
use lib.Seq.{drop-cons, drop-drop, take-add}
use lib.Dec.{eqb}
use borrow.Author.Tests.{eqb-true, eqb-false, eq-eqb, ne_eqb}
use Rattle.numbers.specs.Numbers.{number, all_zero}
use Rattle.numbers.specs.Tests.{and_both}

pub zeros_are : (l : List ℕ) → all_zero l ≡ true → l ≡ replicate (length l) 0
zeros_are [] e = refl
zeros_are (b ∷ l) e =
    let q = and_both (eqb b 0) (all_zero l) e in
    rw (eqb-true b 0 q.0) (ap (λ (t : List ℕ). 0 ∷ t) (zeros_are l q.1))

pub zeros_pass : (n : ℕ) → all_zero (replicate n 0) ≡ true
zeros_pass zero = refl
zeros_pass (suc n) = zeros_pass n

pub zeros_join : (a b : List ℕ) → all_zero (a ++ b) ≡ (all_zero a && all_zero b)
zeros_join [] b = refl
zeros_join (x ∷ a) b = go (eqb x 0) (zeros_join a b)
  where
    go : (t : Bool) → all_zero (a ++ b) ≡ (all_zero a && all_zero b) → (t && all_zero (a ++ b)) ≡ (t && all_zero a && all_zero b)
    go true e = e
    go false e = refl

-- Bytes are all zero exactly when the number in them is.
pub zero_number : (w : ℕ) (s : List ℕ) (at : ℕ) → at + w ≤ length s → eqb (number w s at) 0 ≡ all_zero (take w (drop at s))
zero_number zero s at p = refl
zero_number (suc w) s at p =
    let e : drop at s ≡ get_or s at 0 ∷ drop (at + 1) s = rw add-one (drop-cons s at 0 (omega arith)) in
    rw (e, ← zero_number w s (at + 1) (omega arith)) (sum_zero (get_or s at 0) (number w s (at + 1)))
  where
    sum_zero : (x y : ℕ) → eqb (x + 256 * y) 0 ≡ (eqb x 0 && eqb y 0)
    sum_zero x y = go (eqb x 0) refl (eqb y 0) refl
      where
        go : (t : Bool) → eqb x 0 ≡ t → (u : Bool) → eqb y 0 ≡ u → eqb (x + 256 * y) 0 ≡ (t && u)
        go true f true g = let a = eqb-true x 0 f in let b = eqb-true y 0 g in eq-eqb (x + 256 * y) 0 (omega arith)
        go true f false g = ne_eqb (x + 256 * y) 0 (λ z. eqb-false y 0 g (omega arith))
        go false f u g = ne_eqb (x + 256 * y) 0 (λ z. eqb-false x 0 f (omega arith))

-- In two numbers one after the other.
pub zero_numbers : (v w : ℕ) (s : List ℕ) (at : ℕ) → at + v + w ≤ length s → (eqb (number v s at) 0 && eqb (number w s (at + v)) 0) ≡ all_zero (take (v + w) (drop at s))
zero_numbers v w s at p =
    rw (zero_number v s at (omega arith), zero_number w s (at + v) p, ← zeros_join, ← drop-drop v at s, ← take-add v w (drop at s))
