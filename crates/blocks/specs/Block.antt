-- One block of 512 bytes, as a list. (01, Blocks)
-- Assumes nothing.
use Rattle.std.specs.Prelude.{ℕ, ◌+◌, ◌-◌, ◌*◌, List, Bool, true, false, ◌&&◌, ◌||◌, get_or, take, drop, leb, eqb}
use Rattle.numbers.specs.Numbers.{number, all_zero}
use Rattle.fnv.specs.Fnv.{hash}

-- The bytes from place a up to place e.
abbrev pub part : List ℕ → (a e : ℕ) → List ℕ
part s a e = take (e - a) (drop a s)

-- "Bytes 508–511: the check", which is "over bytes 0–507".
abbrev pub check_right : List ℕ → Bool
check_right block = eqb (number 4 block 508) (hash (take 508 block))

-- "Byte 4: record count. Every block but the last holds 31 records, the last 1 to 31."
abbrev pub count_allowed : ℕ → Bool → Bool
count_allowed count last = leb 1 count && leb count 31 && (last || eqb count 31)

-- "Byte 5: 1 in the last block, otherwise 0."
abbrev pub mark : Bool → ℕ
mark true = 1
mark false = 0

-- "Bytes 0–3: block number from 0. Bytes 6–7: zero. Bytes 8–503: 31 slots of 16 bytes; unused slots are zero. Bytes 504–507: zero."
unfoldable pub header_right : List ℕ → ℕ → Bool → Bool
header_right block n last =
    count_allowed (get_or block 4 0) last
    && (eqb (number 4 block 0) n
    && eqb (get_or block 5 0) (mark last)
    && (eqb (get_or block 6 0) 0 && eqb (get_or block 7 0) 0)
    && all_zero (part block (8 + 16 * get_or block 4 0) 508))
