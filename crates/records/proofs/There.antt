-- Decoding undoes encoding, of every record in range.
-- Assumes nothing.
use Prim.Native.Nat.{ℕ}
use mathlib.Core.Path.{◌≡◌, refl, ap}
use mathlib.Core.List.{◌∷◌}
use native.Mathlib.Omega.{arith}
use lib.ListN.{length}
use borrow.Author.Tests.{le-leb, lt-ltb}
use Rattle.timeline.specs.Design.{leaf, built, Source, own, output_of, constant}
use Rattle.timeline.specs.Rules.{SourceRange}
use Rattle.entry.specs.Records.{Record, wrong, component, part, input, output, instance, invocation, argument, connection}
use Rattle.entry.specs.Asks.{InRange}
use Rattle.numbers.specs.Numbers.{number}
use Rattle.numbers.proofs.Bytes.{number_bytes}
use Rattle.records.specs.Decoded.{from, source_in, argument_of, connection_of, decoded}
use Rattle.records.specs.Encoded.{source_bytes, encoded}

pub length_source : (s : Source) → length (source_bytes s) ≡ 15
length_source (own i) = refl
length_source (output_of j o) = refl
length_source (constant v) = refl

-- Whatever the kind of the record that names it.
source_encoded : (k : ℕ) (s : Source) → SourceRange s → source_in (k ∷ source_bytes s) ≡ from s
source_encoded k (own i) h =
    let w : number 2 (k ∷ source_bytes (own i)) 2 ≡ i = number_bytes 2 (k ∷ source_bytes (own i)) 2 i (omega arith) (omega arith) refl in
    rw (w, lt-ltb i 16 h)
source_encoded k (output_of j o) h =
    let w : number 2 (k ∷ source_bytes (output_of j o)) 2 ≡ j = number_bytes 2 (k ∷ source_bytes (output_of j o)) 2 j (omega arith) (omega arith) refl in
    let v : number 2 (k ∷ source_bytes (output_of j o)) 4 ≡ o = number_bytes 2 (k ∷ source_bytes (output_of j o)) 4 o (omega arith) (omega arith) refl in
    rw (w, v, lt-ltb j 64 h.0, lt-ltb o 16 h.1)
source_encoded k (constant c) h =
    let w : number 8 (k ∷ source_bytes (constant c)) 8 ≡ c = number_bytes 8 (k ∷ source_bytes (constant c)) 8 c (omega arith) h refl in
    rw w

pub decoded_encoded : (r : Record) → InRange r → decoded (encoded r) ≡ r
unfolding decoded encoded
decoded_encoded wrong h = absurd h
decoded_encoded (component leaf d) h =
    let w : number 2 (encoded (component leaf d)) 2 ≡ d = number_bytes 2 (encoded (component leaf d)) 2 d (omega arith) (omega arith) refl in
    rw (w, le-leb 1 d h.0, le-leb d 1024 h.1)
decoded_encoded (component built d) h =
    let w : number 2 (encoded (component built d)) 2 ≡ d = number_bytes 2 (encoded (component built d)) 2 d (omega arith) (omega arith) refl in
    rw (w, le-leb 1 d h.0, le-leb d 1024 h.1)
decoded_encoded (part (input p)) h =
    let l = encoded (part (input p)) in
    let a : number 2 (encoded (part (input p))) 2 ≡ p.start = number_bytes 2 l 2 p.start (omega arith) (omega arith) refl in
    let b : number 2 (encoded (part (input p))) 4 ≡ p.end = number_bytes 2 l 4 p.end (omega arith) (omega arith) refl in
    rw (a, b, lt-ltb p.start p.end h.some, le-leb p.end 1024 h.most, le-leb 1 p.width h.wide, le-leb p.width 64 h.narrow)
decoded_encoded (part (output p)) h =
    let l = encoded (part (output p)) in
    let a : number 2 (encoded (part (output p))) 2 ≡ p.start = number_bytes 2 l 2 p.start (omega arith) (omega arith) refl in
    let b : number 2 (encoded (part (output p))) 4 ≡ p.end = number_bytes 2 l 4 p.end (omega arith) (omega arith) refl in
    rw (a, b, lt-ltb p.start p.end h.some, le-leb p.end 1024 h.most, le-leb 1 p.width h.wide, le-leb p.width 64 h.narrow)
decoded_encoded (part (instance n)) h =
    let w : number 2 (encoded (part (instance n))) 2 ≡ n = number_bytes 2 (encoded (part (instance n))) 2 n (omega arith) (omega arith) refl in
    rw (w, lt-ltb n 64 h)
decoded_encoded (part (invocation v)) h =
    let l = encoded (part (invocation v)) in
    let a : number 2 (encoded (part (invocation v))) 2 ≡ v.instance = number_bytes 2 l 2 v.instance (omega arith) (omega arith) refl in
    let b : number 2 (encoded (part (invocation v))) 4 ≡ v.offset = number_bytes 2 l 4 v.offset (omega arith) (omega arith) refl in
    rw (a, b, lt-ltb v.instance 32 h.0, lt-ltb v.offset 1024 h.1)
decoded_encoded (part (argument s)) h = let l = length_source s in rw l (ap argument_of (source_encoded 5 s h))
decoded_encoded (part (connection s)) h = let l = length_source s in rw l (ap connection_of (source_encoded 6 s h))
