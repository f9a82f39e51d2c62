-- The blocks of a file in order, and a record by its number. (01, Blocks and Answers)
-- Assumes nothing.
use Rattle.std.specs.Prelude.{ℕ, zero, suc, ◌+◌, ◌-◌, ◌*◌, ◌/◌, ◌%◌, List, [], Bool, cond, ◌&&◌, length, get_or, take, drop, ltb, leb, eqb}
use Rattle.answers.specs.Fault as Fault
use Rattle.answers.specs.Answer.{Answer, accepted, refused, then, refusal}
use Rattle.numbers.specs.Tests.{Between}
use Rattle.blocks.specs.Block.{part, check_right, header_right}

-- "A file has 1 to 128 blocks of 512 bytes."
abbrev pub length_allowed : ℕ → Bool
length_allowed n = leb 512 n && leb n 65536 && eqb (n % 512) 0

abbrev pub Allowed : ℕ → Type 0
Allowed n = Between 512 65536 n (eqb (n % 512) 0)

-- "Records are numbered from 0 through the whole file", 31 in a block: where record i stands.
abbrev pub record_place : ℕ → ℕ
record_place i = 512 * (i / 31) + 8 + 16 * (i % 31)

-- Record i of so many.
abbrev pub present : (i count : ℕ) → Answer Unit
present i count = cond (ltb i count) (accepted tt) (refused (refusal Fault.Absent i))

-- "A refusal hands back an empty part": where the part of record i begins in the caller's own file, and what it holds.
abbrev pub part_place : ℕ → Answer Unit → ℕ
part_place i (accepted u) = record_place i
part_place i (refused r) = 0

abbrev pub part_bytes : List ℕ → ℕ → Answer Unit → List ℕ
part_bytes file i (accepted u) = take 16 (drop (record_place i) file)
part_bytes file i (refused r) = []

module _ (file : List ℕ) where
  abbrev pub block_count : ℕ
  block_count = length file / 512

  abbrev pub block : ℕ → List ℕ
  block b = part file (512 * b) (512 * b + 512)

  -- All blocks but the last are full.
  unfoldable pub record_count : ℕ
  record_count = 31 * (block_count - 1) + get_or file (512 * (block_count - 1) + 4) 0

  -- "Then blocks in order, 2 before 3 in each": from block b on, of which so many are left.
  unfoldable pub sound_from : (left b : ℕ) → Answer ℕ
  sound_from zero b = accepted record_count
  sound_from (suc left) b =
      cond (check_right (block b)) (cond (header_right (block b) b (eqb (b + 1) block_count)) (sound_from left (b + 1)) (refused (refusal Fault.Header b))) (refused (refusal Fault.Check b))

  -- The number of records, or refusal 1, 2 or 3.
  unfoldable pub sound : Answer ℕ
  sound = cond (length_allowed (length file)) (sound_from block_count 0) (refused (refusal Fault.Length 0))

  -- "The whole file's blocks are checked first, so the refusals are 1, 2, 3 and then 14."
  unfoldable pub record_answer : ℕ → Answer Unit
  record_answer i = then sound (present i)
