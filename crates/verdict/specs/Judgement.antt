-- What judging a file answers, and what a table and numbers show. (01, Answers)
-- Assumes nothing.
use Rattle.std.specs.Prelude.{ℕ, cond, List, get_or, ltb}
use Rattle.answers.specs.Fault as Fault
use Rattle.answers.specs.Answer.{Answer, accepted, refused, then, refusal, Counts}
use Rattle.blocks.specs.File.{sound}
use Rattle.entry.specs.Entered.{design}
use Rattle.entry.specs.Verdict.{verdict}
use Rattle.reading.specs.Table.{TableOf}
use Rattle.look.specs.Listed.{records_of}
use Rattle.reading.specs.Reader.{Row}
use Rattle.signatures.specs.declared.Signature.{Signature}
use Rattle.signatures.specs.Rows.{zero_row}
use Rattle.reader.specs.Rows.{row, row_in}

-- "A working table of fewer than 64 rows is 13, before everything else." Then the blocks, then the records in order.
unfoldable pub judgement : List ℕ → (rows : ℕ) → Answer Counts
judgement file rows = cond (ltb rows 64) (refused (refusal Fault.Room 0)) (then (sound file) (λ (n : ℕ). verdict (records_of file n)))

-- How many components an accepted file has; a refused one, none.
abbrev pub components_of : Answer Counts → ℕ
components_of (accepted k) = k.components
components_of (refused r) = 0

-- What a table has of a component, and what that shows.
abbrev pub kept : (table : List Signature) → ℕ → Signature
kept table c = get_or table c zero_row

abbrev pub shown : (table : List Signature) → ℕ → Row
shown table c = row (kept table c)

-- Numbers, five to a row, show of an accepted file the row of each component.
abbrev pub Filled : Answer Counts → List ℕ → (rows : List ℕ) → Type 0
Filled (accepted k) file rows = TableOf (design (records_of file k.records)) (λ c. row_in rows c)
Filled (refused r) file rows = Unit
