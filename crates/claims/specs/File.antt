-- Designs as files of bytes.
-- Assumes nothing.
use Rattle.std.specs.Prelude.{ℕ, ◌≤◌, ◌≡◌, List, [], ◌∷◌, ◌++◌, map, length}
use Rattle.answers.specs.Answer.{Counts}
use Rattle.timeline.specs.Design.{Design}
use Rattle.timeline.specs.Rules.{Lawful}
use Rattle.entry.specs.Records.{Record, records}
use Rattle.entry.specs.Entered.{design}
use Rattle.packing.specs.Packed.{packed}
use Rattle.records.specs.Encoded.{encoded}
use Rattle.blocks.specs.File.{record_count}
use Rattle.look.specs.Listed.{records_of}

unfoldable pub joined : List (List ℕ) → List ℕ
joined [] = []
joined (l ∷ ls) = l ++ joined ls

-- The record list of a design, as bytes; and the file that holds it.
abbrev pub list_bytes : Design → List ℕ
list_bytes D = joined (map encoded (records D))

abbrev pub file_of : Design → List ℕ
file_of D = packed (list_bytes D)

-- The file is that of a design which is in range, whole and keeps the rules, with so many components and records, no more than a file holds.
pub record HoldsLawful (file : List ℕ) (k : Counts) : Type 0 where
  pub design : Design
  pub lawful : Lawful design
  pub is : file_of design ≡ file
  pub components : length design ≡ k.components
  pub count : length (records design) ≡ k.records
  pub few : k.records ≤ 3968

-- The records that an accepted file holds, and the design that they say.
abbrev pub said_records : List ℕ → List Record
said_records file = records_of file (record_count file)

abbrev pub said_design : List ℕ → Design
said_design file = design (said_records file)
