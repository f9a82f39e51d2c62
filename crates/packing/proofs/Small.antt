-- Packing and unpacking bytes gives bytes.
-- Assumes nothing.
use Prim.Native.Nat.{ℕ, zero, suc, ◌+◌, ◌-◌, ◌*◌, ◌/◌, ◌≤◌, ◌<◌}
use mathlib.Core.List.{List, [], ◌∷◌}
use mathlib.Core.Bool.{Bool, true, false}
use native.Mathlib.Omega.{arith}
use lib.ListN.{length, get_or, drop, replicate, length-take}
use lib.Dec.{eqb}
use Rattle.numbers.specs.Numbers.{bytes, Bytes}
use Rattle.numbers.proofs.Bytes.{none, more, joined, taken, dropped, zeros, bytes_small}
use Rattle.fnv.specs.Fnv.{hash}
use Rattle.blocks.specs.Block.{mark}
use Rattle.blocks.specs.File.{block_count, block}
use Rattle.packing.specs.Packed.{heading, slots, front, filled, records_of, blocks_for, packed_to, packed, unpacked_to, unpacked}

mark_small : (last : Bool) → mark last < 256
mark_small true = omega arith
mark_small false = omega arith

heading_small : (b : ℕ) (last : Bool) (n : ℕ) → n < 256 → Bytes (heading b last n)
unfolding heading
heading_small b last n p =
    joined (bytes 4 b) (n ∷ mark last ∷ 0 ∷ 0 ∷ []) (bytes_small 4 b)
    (more n (mark last ∷ 0 ∷ 0 ∷ []) p (more (mark last) (0 ∷ 0 ∷ []) (mark_small last) (zeros 2)))

filled_small : (b : ℕ) (last : Bool) (records : List ℕ) → length records ≤ 496 → Bytes records → Bytes (filled b last records)
unfolding filled front slots
filled_small b last records p h =
    joined (front b last records) (bytes 4 (hash (front b last records)))
    (joined (heading b last (length records / 16)) (slots records) (heading_small b last (length records / 16) (omega arith))
    (joined records (replicate (500 - length records) 0) h (zeros (500 - length records))))
    (bytes_small 4 (hash (front b last records)))

packed_to_small : (list : List ℕ) (n b : ℕ) → Bytes list → Bytes (packed_to list n b)
unfolding packed_to
packed_to_small list n zero h = none
packed_to_small list n (suc b) h =
    joined (packed_to list n b) (filled b (eqb (b + 1) n) (records_of list b)) (packed_to_small list n b h)
    (filled_small b (eqb (b + 1) n) (records_of list b) (simp length-take (omega arith)) (taken 496 (drop (496 * b) list) (dropped (496 * b) list h)))

pub packed_small : (list : List ℕ) → Bytes list → Bytes (packed list)
unfolding packed
packed_small list h = packed_to_small list (blocks_for list) (blocks_for list) h

unpacked_to_small : (file : List ℕ) (b : ℕ) → Bytes file → Bytes (unpacked_to file b)
unfolding unpacked_to
unpacked_to_small file zero h = none
unpacked_to_small file (suc b) h =
    let k = taken (512 * b + 512 - 512 * b) (drop (512 * b) file) (dropped (512 * b) file h) in
    joined (unpacked_to file b) _ (unpacked_to_small file b h)
    (taken (8 + 16 * get_or (block file b) 4 0 - 8) (drop 8 (block file b)) (dropped 8 (block file b) k))

pub unpacked_small : (file : List ℕ) → Bytes file → Bytes (unpacked file)
unfolding unpacked
unpacked_small file h = unpacked_to_small file (block_count file) h
