-- What packing and unpacking answer, and what they leave in the lent bytes. (01, Answers)
-- Assumes nothing.
use Rattle.std.specs.Prelude.{ℕ, ◌*◌, List, ◌++◌, cond, length, drop, ltb}
use Rattle.answers.specs.Fault as Fault
use Rattle.answers.specs.Answer.{Answer, accepted, refused, then, refusal, left}
use Rattle.blocks.specs.File.{sound}
use Rattle.packing.specs.Packed.{list_allowed, blocks_for, packed, unpacked}

-- "13: lent buffer too short": so many bytes into so much room.
abbrev pub into : (room size : ℕ) → Answer ℕ
into room size = cond (ltb room size) (refused (refusal Fault.Room 0)) (accepted size)

-- "Packing only 1 and 13."
unfoldable pub pack_answer : List ℕ → (room : ℕ) → Answer ℕ
pack_answer list room = cond (list_allowed (length list)) (into room (512 * blocks_for list)) (refused (refusal Fault.Length 0))

-- "Unpacking gives only 1, 2, 3, 13."
unfoldable pub unpack_answer : List ℕ → (room : ℕ) → Answer ℕ
unpack_answer file room = then (sound file) (λ (n : ℕ). into room (16 * n))

-- "Bytes past the written part keep their values": the file of a list, or the list of a file, over what was there.
abbrev pub over : List ℕ → (old : List ℕ) → (size : ℕ) → List ℕ
over new old size = new ++ drop size old

abbrev pub pack_left : List ℕ → (old : List ℕ) → List ℕ
pack_left list old = left (pack_answer list (length old)) (over (packed list) old) old

abbrev pub unpack_left : List ℕ → (old : List ℕ) → List ℕ
unpack_left file old = left (unpack_answer file (length old)) (over (unpacked file) old) old
