-- How the test of the blocks goes on and ends.
-- Assumes nothing.
use Prim.Native.Nat.{ℕ, zero, suc, ◌+◌, ◌-◌, ◌≤◌, ◌<◌}
use mathlib.Core.Path.{◌≡◌}
use mathlib.Core.List.{List}
use mathlib.Core.Bool.{true, false}
use native.Mathlib.Omega.{arith}
use lib.Dec.{eqb}
use Rattle.answers.specs.Fault as Fault
use Rattle.answers.specs.Answer.{accepted, refused, refusal}
use Rattle.blocks.specs.Block.{check_right, header_right}
use Rattle.blocks.specs.File.{block_count, block, record_count, sound_from}
use Rattle.blocks.specs.Block.{count_allowed}
use Rattle.numbers.specs.Tests.{between}
use mathlib.Core.Bool.{Bool}
use mathlib.Core.Path.{sym, ◌∙◌}

module _ (file : List ℕ) (b : ℕ) where
  left_suc : (n : ℕ) → b < n → n - b ≡ suc (n - (b + 1))
  left_suc n p = omega arith

  left_zero : (n : ℕ) → n ≤ b → n - b ≡ zero
  left_zero n p = omega arith

  pub sound_end : block_count file ≤ b → sound_from file (block_count file - b) b ≡ accepted (record_count file)
  unfolding sound_from
  sound_end p = rw (left_zero (block_count file) p)

  module _ (p : b < block_count file) where
    pub sound_check : check_right (block file b) ≡ false → sound_from file (block_count file - b) b ≡ refused (refusal Fault.Check b)
    unfolding sound_from
    sound_check q = rw (left_suc (block_count file) p, q)

    module _ (q : check_right (block file b) ≡ true) where
      pub sound_header : header_right (block file b) b (eqb (b + 1) (block_count file)) ≡ false → sound_from file (block_count file - b) b ≡ refused (refusal Fault.Header b)
      unfolding sound_from
      sound_header r = rw (left_suc (block_count file) p, q, r)

      pub sound_more : header_right (block file b) b (eqb (b + 1) (block_count file)) ≡ true
          → sound_from file (block_count file - b) b ≡ sound_from file (block_count file - (b + 1)) (b + 1)
      unfolding sound_from
      sound_more r = rw (left_suc (block_count file) p, q, r)

-- A count that is allowed is one of 31 at most.
pub count_most : (count : ℕ) (last r : Bool) → r ≡ count_allowed count last → r ≡ true → count ≤ 31
count_most count last r e t = (between 1 31 count _ (sym e ∙ t)).most
