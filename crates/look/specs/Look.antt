-- What stands in a file under a record's number.
-- Assumes nothing.
use Rattle.std.specs.Prelude.{ℕ, ◌+◌, ◌-◌, ◌<◌, ◌≤◌, min, cond, List, length, get_or, take, drop, ltb}
use Rattle.timeline.specs.Design.{Port}
use Rattle.numbers.specs.Numbers.{number}
use Rattle.blocks.specs.File.{record_place}

module _ (file : List ℕ) (i : ℕ) where
  -- The bytes of record i.
  abbrev pub sixteen : List ℕ
  sixteen = take 16 (drop (record_place i) file)

  -- The record stands in the file.
  abbrev pub Stands : Type 0
  Stands = (i < 1048576) × (record_place i + 16 ≤ length file)

  -- Where record i stands; past the end of the file, where the last sixteen bytes do, so that something stands there.
  abbrev pub look_place : ℕ
  look_place = min (record_place i) (length file - 16)

  -- "Bytes 2–3 start s; bytes 4–5 end e; byte 6 width" of record i, whatever its kind; nothing of a file that is too short for a record.
  unfoldable pub look : Port
  look =
      cond (ltb (length file) 24) (record { start = 0; end = 0; width = 0 })
      (record { start = number 2 file (look_place + 2); end = number 2 file (look_place + 4); width = get_or file (look_place + 6) 0 })

  -- "Byte 0 is the kind."
  abbrev pub kind : ℕ
  kind = get_or file (record_place i) 0

  -- The numbers in bytes 2–3 and in bytes 4–5: an instance's component; an invocation's instance and its offset.
  abbrev pub first_number : ℕ
  first_number = number 2 file (record_place i + 2)

  abbrev pub second_number : ℕ
  second_number = number 2 file (record_place i + 4)
