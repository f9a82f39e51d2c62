-- A list of records, as bytes, and the file that holds it. (01, Blocks)
-- Assumes nothing.
use Rattle.std.specs.Prelude.{ℕ, zero, suc, ◌+◌, ◌-◌, ◌*◌, ◌/◌, ◌%◌, List, [], ◌∷◌, ◌++◌, Bool, ◌&&◌, length, get_or, take, drop, replicate, leb, eqb}
use Rattle.numbers.specs.Numbers.{bytes}
use Rattle.numbers.specs.Tests.{Between}
use Rattle.fnv.specs.Fnv.{hash}
use Rattle.blocks.specs.Block.{part, mark}
use Rattle.blocks.specs.File.{block_count, block}

-- "Byte 4: record count. Byte 5: 1 in the last block, otherwise 0. Bytes 6–7: zero." Before them, "bytes 0–3: block number from 0".
abbrev pub counting : ℕ → Bool → List ℕ
counting count last = count ∷ mark last ∷ 0 ∷ 0 ∷ []

unfoldable pub heading : ℕ → Bool → ℕ → List ℕ
heading b last count = bytes 4 b ++ counting count last

-- "Bytes 8–503: 31 slots of 16 bytes; unused slots are zero. Bytes 504–507: zero."
unfoldable pub slots : List ℕ → List ℕ
slots records = records ++ replicate (500 - length records) 0

-- A block that holds these records: what the check is over, and with "bytes 508–511: the check".
unfoldable pub front : ℕ → Bool → List ℕ → List ℕ
front b last records = heading b last (length records / 16) ++ slots records

unfoldable pub filled : ℕ → Bool → List ℕ → List ℕ
filled b last records = front b last records ++ bytes 4 (hash (front b last records))

-- "A list of 1 to 3,968 records", of sixteen bytes each.
abbrev pub list_allowed : ℕ → Bool
list_allowed n = leb 16 n && leb n 63488 && eqb (n % 16) 0

abbrev pub Listed : ℕ → Type 0
Listed n = Between 16 63488 n (eqb (n % 16) 0)

-- "Every block but the last holds 31 records, the last 1 to 31": those of block b, and the first blocks of a file of n.
abbrev pub records_of : List ℕ → ℕ → List ℕ
records_of list b = take 496 (drop (496 * b) list)

abbrev pub blocks_for : List ℕ → ℕ
blocks_for list = (length list + 495) / 496

unfoldable pub packed_to : List ℕ → (n b : ℕ) → List ℕ
packed_to list n zero = []
packed_to list n (suc b) = packed_to list n b ++ filled b (eqb (b + 1) n) (records_of list b)

-- The file of a list.
unfoldable pub packed : List ℕ → List ℕ
packed list = packed_to list (blocks_for list) (blocks_for list)

-- The records of the first blocks of a file, and its whole list: the used slots of its blocks.
unfoldable pub unpacked_to : List ℕ → ℕ → List ℕ
unpacked_to file zero = []
unpacked_to file (suc b) = unpacked_to file b ++ part (block file b) 8 (8 + 16 * get_or (block file b) 4 0)

unfoldable pub unpacked : List ℕ → List ℕ
unpacked file = unpacked_to file (block_count file)
