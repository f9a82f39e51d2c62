-- The sixteen bytes that a record is written as. (01, Records)
-- Assumes nothing.
use Rattle.std.specs.Prelude.{ℕ, List, ◌∷◌, ◌++◌, replicate}
use Rattle.timeline.specs.Design.{Port, Source, own, output_of, constant}
use Rattle.entry.specs.Records.{Record, wrong, component, part}
use Rattle.numbers.specs.Numbers.{bytes}
use Rattle.records.specs.Encoded.{encoded}

-- Byte 1, the numbers in bytes 2–3 and 4–5, and byte 6 of a record of this kind; the rest is zero.
abbrev pub with_fields : (kind one x y six : ℕ) → List ℕ
with_fields kind one x y six = kind ∷ one ∷ (bytes 2 x ++ (bytes 2 y ++ (six ∷ replicate 9 0)))

-- "Kind 2: bytes 8–15 the constant."
abbrev pub with_constant : (kind v : ℕ) → List ℕ
with_constant kind v = kind ∷ 2 ∷ (replicate 6 0 ++ bytes 8 v)

abbrev pub with_source : (kind : ℕ) → Source → List ℕ
with_source kind (own i) = with_fields kind 0 i 0 0
with_source kind (output_of j o) = with_fields kind 1 j o 0
with_source kind (constant v) = with_constant kind v

abbrev pub with_port : (side : ℕ) → Port → List ℕ
with_port side p = with_fields 2 side p.start p.end p.width

-- A record's own bytes; sixteen zeros, which decode to nothing, where there is no record.
abbrev pub spelled : Record → List ℕ
spelled wrong = replicate 16 0
spelled (component k d) = encoded (component k d)
spelled (part p) = encoded (part p)
