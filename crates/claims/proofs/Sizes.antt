-- A record in range is encoded in sixteen bytes.
-- Assumes nothing.
use Prim.Native.Nat.{ℕ, suc, ◌<◌}
use mathlib.Core.Path.{◌≡◌, refl, ap}
use mathlib.Core.List.{◌∷◌, ◌++◌}
use native.Mathlib.Omega.{arith}
use lib.ListN.{length, replicate}
use Rattle.timeline.specs.Design.{Class, leaf, built, Port, Source, own, output_of, constant}
use Rattle.timeline.specs.Rules.{PortRange}
use Rattle.entry.specs.Records.{Record, wrong, component, part, input, output, instance, invocation, argument, connection}
use Rattle.entry.specs.Asks.{InRange}
use Rattle.numbers.specs.Numbers.{bytes, Bytes}
use Rattle.numbers.proofs.Bytes.{more, joined, zeros, bytes_small}
use Rattle.records.proofs.There.{length_source}
use Rattle.records.specs.Encoded.{class_byte, port_bytes, source_bytes, encoded}

pub encoded_sixteen : (r : Record) → InRange r → length (encoded r) ≡ 16
unfolding encoded
encoded_sixteen wrong h = absurd h
encoded_sixteen (component k d) h = refl
encoded_sixteen (part (input p)) h = refl
encoded_sixteen (part (output p)) h = refl
encoded_sixteen (part (instance n)) h = refl
encoded_sixteen (part (invocation v)) h = refl
encoded_sixteen (part (argument s)) h = ap suc (length_source s)
encoded_sixteen (part (connection s)) h = ap suc (length_source s)

class_small : (k : Class) → class_byte k < 256
class_small leaf = omega arith
class_small built = omega arith

-- One number, and zeros behind it.
number_small : (w x n : ℕ) → Bytes (bytes w x ++ replicate n 0)
number_small w x n = joined (bytes w x) (replicate n 0) (bytes_small w x) (zeros n)

numbers_small : (x y n : ℕ) → Bytes (bytes 2 x ++ (bytes 2 y ++ replicate n 0))
numbers_small x y n = joined (bytes 2 x) (bytes 2 y ++ replicate n 0) (bytes_small 2 x) (number_small 2 y n)

port_small : (p : Port) → PortRange p → Bytes (port_bytes p)
port_small p h =
    let n = h.narrow in
    joined (bytes 2 p.start) (bytes 2 p.end ++ (p.width ∷ replicate 9 0)) (bytes_small 2 p.start)
    (joined (bytes 2 p.end) (p.width ∷ replicate 9 0) (bytes_small 2 p.end) (more p.width (replicate 9 0) (omega arith) (zeros 9)))

source_small : (s : Source) → Bytes (source_bytes s)
source_small (own i) = more 0 (bytes 2 i ++ replicate 12 0) (omega arith) (number_small 2 i 12)
source_small (output_of j o) = more 1 (bytes 2 j ++ (bytes 2 o ++ replicate 10 0)) (omega arith) (numbers_small j o 10)
source_small (constant v) = more 2 (replicate 6 0 ++ bytes 8 v) (omega arith) (joined (replicate 6 0) (bytes 8 v) (zeros 6) (bytes_small 8 v))

pub encoded_small : (r : Record) → InRange r → Bytes (encoded r)
unfolding encoded
encoded_small wrong h = absurd h
encoded_small (component k d) h = more 1 (class_byte k ∷ (bytes 2 d ++ replicate 12 0)) (omega arith) (more (class_byte k) (bytes 2 d ++ replicate 12 0) (class_small k) (number_small 2 d 12))
encoded_small (part (input p)) h = more 2 (0 ∷ port_bytes p) (omega arith) (more 0 (port_bytes p) (omega arith) (port_small p h))
encoded_small (part (output p)) h = more 2 (1 ∷ port_bytes p) (omega arith) (more 1 (port_bytes p) (omega arith) (port_small p h))
encoded_small (part (instance n)) h = more 3 (0 ∷ (bytes 2 n ++ replicate 12 0)) (omega arith) (more 0 (bytes 2 n ++ replicate 12 0) (omega arith) (number_small 2 n 12))
encoded_small (part (invocation v)) h = more 4 (0 ∷ (bytes 2 v.instance ++ (bytes 2 v.offset ++ replicate 10 0))) (omega arith) (more 0 (bytes 2 v.instance ++ (bytes 2 v.offset ++ replicate 10 0)) (omega arith) (numbers_small v.instance v.offset 10))
encoded_small (part (argument s)) h = more 5 (source_bytes s) (omega arith) (source_small s)
encoded_small (part (connection s)) h = more 6 (source_bytes s) (omega arith) (source_small s)
