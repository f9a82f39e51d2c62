-- The main page of the encoding: what is written of a record is read as that record again.
-- Assumes nothing.
use mathlib.Core.Path.{◌≡◌, refl}
use Rattle.entry.specs.Records.{Record, wrong, component, part}
use Rattle.entry.specs.Asks.{InRange}
use Rattle.records.specs.Decoded.{decoded}
use Rattle.records.proofs.Main.{decoded_encoded}
use Rattle.encoding.specs.Spelled.{spelled}

pub decoded_spelled : (r : Record) → InRange r → decoded (spelled r) ≡ r
unfolding decoded
decoded_spelled wrong i = refl
decoded_spelled (component k d) i = decoded_encoded (component k d) i
decoded_spelled (part p) i = decoded_encoded (part p) i
