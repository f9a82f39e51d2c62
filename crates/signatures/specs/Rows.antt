-- A row of zeros.
-- Assumes nothing.
use Rattle.signatures.specs.declared.Signature.{Signature}

abbrev pub zero_row : Signature
zero_row = record { class = 0; delay = 0; inputs = 0; outputs = 0; first = 0 }
