-- What an accepted file's blocks are, each by itself. That `sound` says just this, both ways, is proved in proofs/Accepted.antt.
-- Assumes nothing.
use Rattle.std.specs.Prelude.{ℕ, ◌+◌, ◌*◌, ◌<◌, ◌≡◌, List, Bool, true, ◌||◌, length, get_or, eqb}
use Rattle.numbers.specs.Numbers.{number, all_zero}
use Rattle.numbers.specs.Tests.{Between}
use Rattle.blocks.specs.Block.{part, mark, check_right}
use Rattle.blocks.specs.File.{Allowed, block_count, block}

-- The parts of a header that is right.
pub record Header (block : List ℕ) (n : ℕ) (last : Bool) : Type 0 where
  pub count : Between 1 31 (get_or block 4 0) (last || eqb (get_or block 4 0) 31)
  pub numbered : number 4 block 0 ≡ n
  pub marked : get_or block 5 0 ≡ mark last
  pub gap : get_or block 6 0 ≡ 0
  pub gap_2 : get_or block 7 0 ≡ 0
  pub rest : all_zero (part block (8 + 16 * get_or block 4 0) 508) ≡ true

module _ (file : List ℕ) where
  -- Block b keeps its check and its header.
  pub record Right (b : ℕ) : Type 0 where
    pub check : check_right (block file b) ≡ true
    pub head : Header (block file b) b (eqb (b + 1) (block_count file))

  pub record Sound : Type 0 where
    pub allowed : Allowed (length file)
    pub right : (b : ℕ) → b < block_count file → Right b
