-- What sixteen bytes say. (01, Records)
-- Assumes nothing.
use Rattle.std.specs.Prelude.{ℕ, List, cond, ◌&&◌, length, get_or, drop, ltb, leb, eqb}
use Rattle.timeline.specs.Design.{Port, Source, own, output_of, constant, leaf, built}
use Rattle.entry.specs.Records.{Record, wrong, component, part, input, output, instance, invocation, argument, connection}
use Rattle.numbers.specs.Numbers.{number, all_zero}
use Rattle.blocks.specs.Block as Block

module _ (bytes : List ℕ) where
  -- Byte i, and the number in bytes i and i + 1.
  abbrev pub byte : ℕ → ℕ
  byte i = get_or bytes i 0

  abbrev pub word : ℕ → ℕ
  word i = number 2 bytes i

  -- "1 component | byte 1: 0 leaf, 1 built; bytes 2–3 delay, 1 to 1,024"
  abbrev pub component_in : Record
  component_in =
      cond (leb 1 (word 2) && leb (word 2) 1024 && all_zero (drop 4 bytes))
      (cond (eqb (byte 1) 0) (component leaf (word 2)) (cond (eqb (byte 1) 1) (component built (word 2)) wrong))
      wrong

  -- "2 port | byte 1: 0 input, 1 output; bytes 2–3 start s; bytes 4–5 end e, with s < e ≤ 1,024; byte 6 width, 1 to 64"
  abbrev pub the_port : Port
  the_port = record { start = word 2; end = word 4; width = byte 6 }

  abbrev pub port_in : Record
  port_in =
      cond (ltb (word 2) (word 4) && leb (word 4) 1024 && leb 1 (byte 6) && leb (byte 6) 64 && all_zero (drop 7 bytes))
      (cond (eqb (byte 1) 0) (part (input the_port)) (cond (eqb (byte 1) 1) (part (output the_port)) wrong))
      wrong

  -- "3 instance | bytes 2–3 component number, 0 to 63"
  abbrev pub instance_in : Record
  instance_in = cond (eqb (byte 1) 0 && ltb (word 2) 64 && all_zero (drop 4 bytes)) (part (instance (word 2))) wrong

  -- "4 invocation | bytes 2–3 instance number, 0 to 31; bytes 4–5 offset, 0 to 1,023"
  abbrev pub invocation_in : Record
  invocation_in =
      cond (eqb (byte 1) 0 && ltb (word 2) 32 && ltb (word 4) 1024 && all_zero (drop 6 bytes))
      (part (invocation (record { instance = word 2; offset = word 4 })))
      wrong

-- What argument and connection records name, if they are right.
pub data Named : Type 0 where
  from : Source → Named
  nothing : Named

-- "5 argument, 6 connection | byte 1: source kind; then the source".
-- "Kind 0: bytes 2–3 own input number, 0 to 15. Kind 1: bytes 2–3 invocation, 0 to 63; bytes 4–5 output number, 0 to 15. Kind 2: bytes 8–15 the constant."
abbrev pub source_in : List ℕ → Named
source_in bytes =
    cond (eqb (byte bytes 1) 0) (cond (ltb (word bytes 2) 16 && all_zero (drop 4 bytes)) (from (own (word bytes 2))) nothing)
    (cond (eqb (byte bytes 1) 1) (cond (ltb (word bytes 2) 64 && ltb (word bytes 4) 16 && all_zero (drop 6 bytes)) (from (output_of (word bytes 2) (word bytes 4))) nothing)
    (cond (eqb (byte bytes 1) 2) (cond (all_zero (Block.part bytes 2 8)) (from (constant (number 8 bytes 8))) nothing)
    nothing))

abbrev pub argument_of : Named → Record
argument_of (from s) = part (argument s)
argument_of nothing = wrong

abbrev pub connection_of : Named → Record
connection_of (from s) = part (connection s)
connection_of nothing = wrong

-- "Byte 0 is the kind. Bytes not named are zero."
unfoldable pub decoded : List ℕ → Record
decoded bytes =
    cond (eqb (length bytes) 16)
    (cond (eqb (byte bytes 0) 1) (component_in bytes)
    (cond (eqb (byte bytes 0) 2) (port_in bytes)
    (cond (eqb (byte bytes 0) 3) (instance_in bytes)
    (cond (eqb (byte bytes 0) 4) (invocation_in bytes)
    (cond (eqb (byte bytes 0) 5) (argument_of (source_in bytes))
    (cond (eqb (byte bytes 0) 6) (connection_of (source_in bytes))
    wrong))))))
    wrong
