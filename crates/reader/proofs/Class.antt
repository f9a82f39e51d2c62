-- A class as a number, and back; and so a row as plain numbers.
-- Assumes nothing.
use mathlib.Core.Bool.{Bool, true, false, not}
use mathlib.Core.Path.{◌≡◌, refl, sym, ap, ◌∙◌}
use lib.Dec.{eqb}
use Rattle.reading.specs.Reader.{Row}
use Rattle.signatures.specs.declared.Signature.{Signature}
use Rattle.reader.specs.Rows.{bit, row, signature, Exact}

pub class_back : (b : Bool) → not (eqb (bit b) 0) ≡ b
class_back true = refl
class_back false = refl

pub row_back : (w : Row) → row (signature w) ≡ w
unfolding signature
row_back w = rw (class_back w.built)

pub exact_row : (s : Signature) (w : Row) → s ≡ signature w → Exact s
exact_row s w e = e ∙ ap signature (sym (ap row e ∙ row_back w))
