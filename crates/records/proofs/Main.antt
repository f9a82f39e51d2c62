-- The main page of the records: sixteen bytes and what they say.
-- Assumes nothing.
use Prim.Native.Nat.{ℕ}
use mathlib.Core.Path.{◌≡◌}
use mathlib.Core.List.{List}
use mathlib.Core.Logic.{◌≢◌}
use Rattle.entry.specs.Records.{Record, wrong}
use Rattle.entry.specs.Asks.{InRange}
use Rattle.numbers.specs.Numbers.{Bytes}
use Rattle.records.specs.Decoded.{decoded}
use Rattle.records.specs.Encoded.{encoded}
use Rattle.records.proofs.There as There
use Rattle.records.proofs.Back as Back

-- Decoding undoes encoding, of every record in range.
pub decoded_encoded : (r : Record) → InRange r → decoded (encoded r) ≡ r
decoded_encoded = There.decoded_encoded

-- Whatever decodes is the encoding of what it decodes to, so that every byte that document 01 does not name is zero; and it is in range.
pub encoded_decoded : (l : List ℕ) → Bytes l → decoded l ≢ wrong → encoded (decoded l) ≡ l
encoded_decoded l small n = (Back.decoded_right l small n).is

pub decoded_range : (l : List ℕ) → Bytes l → decoded l ≢ wrong → InRange (decoded l)
decoded_range l small n = (Back.decoded_right l small n).range
