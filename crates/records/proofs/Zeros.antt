-- The bytes of a record that are to be zero, tested as numbers.
-- Assumes nothing.
use Prim.Native.Nat.{ℕ, ◌+◌, ◌-◌, ◌≤◌}
use mathlib.Core.Path.{◌≡◌, refl, sym, ap, ◌∙◌}
use mathlib.Core.List.{List, ◌++◌}
use mathlib.Core.Bool.{Bool, true, false, ◌&&◌}
use native.Mathlib.Omega.{arith}
use lib.ListN.{length, get_or, take, drop, length-drop, take-append-drop}
use lib.Seq.{drop-cons, drop-drop, take-add, take_all}
use lib.Dec.{eqb}
use Rattle.numbers.specs.Numbers.{number, all_zero}
use Rattle.numbers.proofs.Zeros.{zero_number, zero_numbers, zeros_join}

-- What two parts share counts once.
shared : (a p q : Bool) → ((a && p) && (p && q)) ≡ (a && (p && q))
shared true true q = refl
shared true false q = refl
shared false p q = refl

module _ (s : List ℕ) (sixteen : length s ≡ 16) where
  -- Two numbers that reach to the end.
  pub zero_rest : (at v w : ℕ) → at + v + w ≡ 16 → (eqb (number v s at) 0 && eqb (number w s (at + v)) 0) ≡ all_zero (drop at s)
  zero_rest at v w e = zero_numbers v w s at (omega arith) ∙ ap all_zero (take_all (v + w) (drop at s) (simp length-drop (omega arith)))

  pub zero_seventh : (eqb (get_or s 7 0) 0 && eqb (number 8 s 8) 0) ≡ all_zero (drop 7 s)
  zero_seventh =
      let e = zero_number 8 s 8 (omega arith) ∙ ap all_zero (take_all 8 (drop 8 s) (simp length-drop (omega arith))) in
      rw (e, drop-cons s 7 0 (omega arith))

  -- Two numbers of eight bytes that reach to the end, the first perhaps into the second.
  pub zero_from : (at : ℕ) → at ≤ 8 → (eqb (number 8 s at) 0 && eqb (number 8 s 8) 0) ≡ all_zero (drop at s)
  zero_from at l =
      let front = take (8 - at) (drop at s) in
      let rest = drop 8 s in
      let sum : at + (8 - at) ≡ 8 = omega (arith, l) in
      let sum' : 8 ≡ (8 - at) + at = omega (arith, l) in
      let on : drop (8 - at) (drop at s) ≡ rest = drop-drop (8 - at) at s ∙ ap (λ (n : ℕ). drop n s) sum in
      let all : drop at s ≡ front ++ rest = sym (take-append-drop (8 - at) (drop at s)) ∙ ap (λ (x : List ℕ). front ++ x) on in
      let eight : take 8 (drop at s) ≡ front ++ take at rest =
      ap (λ (n : ℕ). take n (drop at s)) sum' ∙ take-add (8 - at) at (drop at s) ∙ ap (λ (x : List ℕ). front ++ take at x) on in
      let a : eqb (number 8 s at) 0 ≡ (all_zero front && all_zero (take at rest)) =
      zero_number 8 s at (omega arith) ∙ ap all_zero eight ∙ zeros_join front (take at rest) in
      let b : eqb (number 8 s 8) 0 ≡ all_zero rest =
      zero_number 8 s 8 (omega arith) ∙ ap all_zero (take_all 8 rest (simp length-drop (omega arith))) in
      let c : all_zero rest ≡ (all_zero (take at rest) && all_zero (drop at rest)) =
      ap all_zero (sym (take-append-drop at rest)) ∙ zeros_join (take at rest) (drop at rest) in
      let d : all_zero (drop at s) ≡ (all_zero front && all_zero rest) = ap all_zero all ∙ zeros_join front rest in
      rw (a, b, d, c) (shared (all_zero front) (all_zero (take at rest)) (all_zero (drop at rest)))
