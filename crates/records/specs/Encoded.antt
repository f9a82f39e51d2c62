-- The sixteen bytes of a record: its kind, its fields, and zero wherever document 01 names nothing. (01, Records)
-- Assumes nothing.
use Rattle.std.specs.Prelude.{ℕ, List, [], ◌∷◌, ◌++◌, replicate}
use Rattle.timeline.specs.Design.{Class, leaf, built, Port, Source, own, output_of, constant}
use Rattle.entry.specs.Records.{Record, wrong, component, part, input, output, instance, invocation, argument, connection}
use Rattle.numbers.specs.Numbers.{bytes}

abbrev zeros : ℕ → List ℕ
zeros n = replicate n 0

-- Byte 1 of a component record.
abbrev pub class_byte : Class → ℕ
class_byte leaf = 0
class_byte built = 1

-- From byte 2 on.
abbrev pub port_bytes : Port → List ℕ
port_bytes p = bytes 2 p.start ++ (bytes 2 p.end ++ (p.width ∷ zeros 9))

-- From byte 1 on.
abbrev pub source_bytes : Source → List ℕ
source_bytes (own i) = 0 ∷ (bytes 2 i ++ zeros 12)
source_bytes (output_of j o) = 1 ∷ (bytes 2 j ++ (bytes 2 o ++ zeros 10))
source_bytes (constant v) = 2 ∷ (zeros 6 ++ bytes 8 v)

-- A wrong record is no record's bytes.
unfoldable pub encoded : Record → List ℕ
encoded wrong = []
encoded (component k d) = 1 ∷ class_byte k ∷ (bytes 2 d ++ zeros 12)
encoded (part (input p)) = 2 ∷ 0 ∷ port_bytes p
encoded (part (output p)) = 2 ∷ 1 ∷ port_bytes p
encoded (part (instance n)) = 3 ∷ 0 ∷ (bytes 2 n ++ zeros 12)
encoded (part (invocation v)) = 4 ∷ 0 ∷ (bytes 2 v.instance ++ (bytes 2 v.offset ++ zeros 10))
encoded (part (argument s)) = 5 ∷ source_bytes s
encoded (part (connection s)) = 6 ∷ source_bytes s
