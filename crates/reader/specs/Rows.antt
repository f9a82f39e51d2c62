-- A table as a list of numbers, five to a row: "class, delay, port counts, first record". (01, Records)
-- Assumes nothing.
use Rattle.std.specs.Prelude.{ℕ, ◌+◌, ◌*◌, Bool, true, false, not, ◌≡◌, List, get_or, set, eqb}
use Rattle.reading.specs.Reader.{Row}
use Rattle.signatures.specs.declared.Signature.{Signature}

abbrev pub row : Signature → Row
row s = record { built = not (eqb s.class 0); delay = s.delay; inputs = s.inputs; outputs = s.outputs; first = s.first }

abbrev pub no_row : Row
no_row = record { built = false; delay = 0; inputs = 0; outputs = 0; first = 0 }

abbrev pub none : ℕ → Row
none c = no_row

-- The number of a class: 0 leaf, 1 built.
abbrev pub bit : Bool → ℕ
bit true = 1
bit false = 0

-- The row as plain numbers.
unfoldable pub signature : Row → Signature
signature w = record { class = bit w.built; delay = w.delay; inputs = w.inputs; outputs = w.outputs; first = w.first }

-- Plain numbers that tell their class by 0 or 1.
abbrev pub Exact : Signature → Type 0
Exact s = s ≡ signature (row s)

unfoldable pub row_in : List ℕ → ℕ → Row
row_in rows c =
    record {
      built = not (eqb (get_or rows (5 * c) 0) 0);
      delay = get_or rows (5 * c + 1) 0;
      inputs = get_or rows (5 * c + 2) 0;
      outputs = get_or rows (5 * c + 3) 0;
      first = get_or rows (5 * c + 4) 0;
    }

unfoldable pub put_row : List ℕ → ℕ → Signature → List ℕ
put_row rows c s =
    set
    (set (set (set (set rows (5 * c) s.class) (5 * c + 1) s.delay) (5 * c + 2) s.inputs) (5 * c + 3) s.outputs)
    (5 * c + 4)
    s.first
