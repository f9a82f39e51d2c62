-- The row of each component of an accepted file: in the table, and handed on as numbers.
-- Assumes nothing.
use Rattle.std.specs.Prelude.{ℕ, zero, suc, ◌-◌, ◌*◌, ◌<◌, ◌≡◌, List, [], ◌∷◌, ◌++◌, length, replicate}
use Rattle.timeline.specs.Design.{Design, class, delay, input_count, output_count}
use Rattle.answers.specs.Answer.{Answer, accepted, refused, Counts}
use Rattle.entry.specs.Numbers.{component_number}
use Rattle.entry.specs.Entered.{design}
use Rattle.reading.specs.Tests.{is_built}
use Rattle.look.specs.Listed.{records_of}
use Rattle.signatures.specs.declared.Signature.{Signature}
use Rattle.reader.specs.Rows.{bit}

-- So many numbers, each 0.
unfoldable pub zeros : ℕ → List ℕ
zeros n = replicate n 0

-- Five numbers to a row.
abbrev pub numbers : Signature → List ℕ
numbers s = s.class ∷ s.delay ∷ s.inputs ∷ s.outputs ∷ s.first ∷ []

module _ (D : Design) where
  -- "One row for each component: class, delay, port counts, first record." (01, Records)
  abbrev pub row_of : ℕ → Signature
  row_of c = record { class = bit (is_built (class D c)); delay = delay D c; inputs = input_count D c; outputs = output_count D c; first = component_number D c }

  -- What stands at each component's number is its row.
  abbrev pub RowsOf : (ℕ → Signature) → Type 0
  RowsOf f = (c : ℕ) → c < length D → f c ≡ row_of c

  -- The rows of so many components, from component c on.
  unfoldable pub rows_from : (left c : ℕ) → List ℕ
  rows_from zero c = []
  rows_from (suc left) c = numbers (row_of c) ++ rows_from left (suc c)

  -- The rows of all components, then zeros: 64 rows.
  abbrev pub design_rows : List ℕ
  design_rows = rows_from (length D) 0 ++ zeros (5 * (64 - length D))

-- Of an accepted file the rows of its design; of a refused one zeros.
abbrev pub opening_rows : Answer Counts → List ℕ → List ℕ
opening_rows (accepted k) file = design_rows (design (records_of file k.records))
opening_rows (refused r) file = zeros 320

-- The same of the design of an accepted file.
abbrev pub Fills : Answer Counts → List ℕ → (ℕ → Signature) → Type 0
Fills (accepted k) file f = RowsOf (design (records_of file k.records)) f
Fills (refused r) file f = Unit
