-- A file that has been judged, and what stands in it under a record's number, read lightly.
-- Assumes nothing.
use Rattle.std.specs.Prelude.{ℕ, zero, suc, ◌+◌, ◌*◌, ◌/◌, ◌≤◌, ◌<◌, cond, ◌≡◌, List, length, ltb, eqb}
use Rattle.numbers.specs.Numbers.{Bytes}
use Rattle.blocks.specs.File.{record_place}
use Rattle.look.specs.Look as Look
use Rattle.look.specs.Look.{kind}
use Rattle.timeline.specs.Design.{Design}
use Rattle.timeline.specs.Rules.{Lawful}
use Rattle.entry.specs.Records.{records}
use Rattle.entry.specs.Entered.{design}
use Rattle.reading.specs.Table.{TableOf}
use Rattle.reading.specs.Reader.{Row}
use Rattle.reader.specs.Rows.{row_in}
use Rattle.look.specs.Listed.{records_of}

-- The design that the first n records of a file say.
abbrev pub design_of : List ℕ → (n : ℕ) → Design
design_of file n = design (records_of file n)

-- The file has been judged: its n records are those of a lawful design, and `rows` has the row of each of its components.
pub record Opened (file rows : List ℕ) (n : ℕ) : Type 0 where
  pub small : Bytes file
  pub lawful : Lawful (design_of file n)
  pub records_are : records (design_of file n) ≡ records_of file n
  pub few : n ≤ 3968
  pub held : n ≤ 31 * (length file / 512)
  pub room : length rows ≡ 320
  pub filled : TableOf (design_of file n) (λ c. row_in rows c)

-- Record i lies in the file.
abbrev pub Lies : List ℕ → ℕ → Type 0
Lies file i = (i < 3968) × (record_place i + 16 ≤ length file)

-- The numbers in bytes 2–3 and in bytes 4–5 of record i: an instance's component; an invocation's instance and its offset.
abbrev pub first_number : List ℕ → ℕ → ℕ
first_number file i = Look.first_number file i

abbrev pub second_number : List ℕ → ℕ → ℕ
second_number file i = Look.second_number file i

-- The record behind the ports of a component.
abbrev pub past_ports : Row → ℕ
past_ports w = w.first + 1 + w.inputs + w.outputs

-- From record i on, of which so many are left: the first that is no instance.
unfoldable pub past_instances : List ℕ → (left i : ℕ) → ℕ
past_instances file zero i = i
past_instances file (suc left) i = cond (eqb (kind file i) 3) (past_instances file left (suc i)) i

-- The record at which component c ends: that of the next component, or where the file stops.
unfoldable pub end_of : (rows : List ℕ) → (components records c : ℕ) → ℕ
end_of rows components records c = cond (ltb (c + 1) components) (row_in rows (c + 1)).first records
