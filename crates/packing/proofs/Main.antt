-- The main page of the bytes: files and lists of records.
-- Assumes nothing.
use Prim.Native.Nat.{ℕ, ◌*◌, ◌/◌}
use mathlib.Core.Path.{◌≡◌, ap, sym, ◌∙◌, subst}
use mathlib.Core.List.{List}
use mathlib.Core.Logic.{◌↔◌}
use native.Mathlib.Omega.{arith}
use lib.ListN.{length, take, drop}
use Rattle.answers.specs.Answer.{accepted}
use Rattle.numbers.specs.Numbers.{Bytes}
use Rattle.blocks.specs.File.{sound, record_count, record_answer, part_bytes}
use Rattle.blocks.proofs.Accepted.{sound_blocks, sound_count, sound_back}
use Rattle.packing.specs.Packed.{Listed, packed, unpacked}
use Rattle.packing.proofs.Trips as trips
use Rattle.packing.proofs.Small.{packed_small, unpacked_small}
use Rattle.packing.proofs.Lookup.{record_unpacked}

-- "A list of 1 to 3,968 records, of any content, as bytes"; a file that passes.
pub record Records (list : List ℕ) : Type 0 where
  pub allowed : Listed (length list)
  pub small : Bytes list

pub record File (file : List ℕ) : Type 0 where
  pub count : ℕ
  pub passes : sound file ≡ accepted count
  pub small : Bytes file

-- Packing gives a file that passes, with as many records as the list.
pub packed_passes : (list : List ℕ) → Records list → sound (packed list) ≡ accepted (length list / 16)
packed_passes list r =
    let s = trips.sound_packed list r.allowed in
    let e = trips.length_unpacked (packed list) s in
    let m = rw (trips.unpacked_packed list r.allowed) at e in
    let n : record_count (packed list) ≡ length list / 16 = omega arith in
    rw n at (sound_back (packed list) s)

pub file_of : (list : List ℕ) → Records list → File (packed list)
file_of list r = record { count = length list / 16; passes = packed_passes list r; small = packed_small list r.small }

-- Unpacking gives a list of records.
pub list_of : (file : List ℕ) → File file → Records (unpacked file)
list_of file f = record { allowed = trips.listed_unpacked file (sound_blocks file f.count f.passes); small = unpacked_small file f.small }

-- "Packing and unpacking undo each other."
pub there_and_back : (list : List ℕ) → Records list → unpacked (packed list) ≡ list
there_and_back list r = trips.unpacked_packed list r.allowed

pub back_and_there : (file : List ℕ) → File file → packed (unpacked file) ≡ file
back_and_there file f = trips.packed_unpacked file (sound_blocks file f.count f.passes) f.small

-- A file passes exactly when it is the packing of some list.
pub passes_exactly : (file : List ℕ) → File file ↔ ((list : List ℕ) × Records list × (packed list ≡ file))
passes_exactly file = (
  λ f. (unpacked file, list_of file f, back_and_there file f),
  λ w. subst (λ (g : List ℕ). File g) w.2 (file_of w.0 w.1),
)

-- Two lists with one packing are one list.
pub packed_once : (list other : List ℕ) → Records list → Records other → packed list ≡ packed other → list ≡ other
packed_once list other r s e = sym (there_and_back list r) ∙ ap unpacked e ∙ there_and_back other s

-- A file has as many records as its list has sixteens, and record i is the list's sixteen bytes from 16 i on: none past the end.
pub count_is : (file : List ℕ) (f : File file) → length (unpacked file) ≡ 16 * f.count
count_is file f = trips.length_unpacked file (sound_blocks file f.count f.passes) ∙ ap (λ (n : ℕ). 16 * n) (sym (sound_count file f.count f.passes))

pub record_is : (file : List ℕ) → File file → (i : ℕ) → part_bytes file i (record_answer file i) ≡ take 16 (drop (16 * i) (unpacked file))
record_is file f i = record_unpacked file (sound_blocks file f.count f.passes) i
