-- What decodes is in range, and the light look at a port is what decoding says.
-- Assumes nothing.
use Prim.Native.Nat.{ℕ, ◌+◌, ◌≤◌, ◌<◌}
use mathlib.Core.Path.{◌≡◌, refl, sym, ap, ◌∙◌}
use mathlib.Core.List.{List}
use native.Mathlib.Omega.{arith}
use lib.ListN.{length, get_or, drop}
use lib.Seq.{get_or-take, get_or-drop}
use borrow.Author.Tests.{le-ltb}
use Rattle.timeline.specs.Design.{Port}
use Rattle.timeline.specs.Rules.{PortRange}
use Rattle.entry.specs.Records.{Part, Record, wrong, component, part, input, output}
use Rattle.reading.specs.Reads.{Ranged}
use Rattle.numbers.specs.Numbers.{number, Bytes}
use Rattle.numbers.proofs.Bytes.{taken, dropped, number_bytes}
use Rattle.blocks.specs.File.{record_place}
use Rattle.records.specs.Decoded.{decoded, the_port}
use Rattle.records.specs.Encoded.{encoded}
use Rattle.records.proofs.Main.{encoded_decoded, decoded_range}
use Rattle.look.specs.Look.{sixteen, look_place, look}

pub decoded_ranged : (l : List ℕ) → Bytes l → Ranged (decoded l)
decoded_ranged l small = go (decoded l) refl
  where
    go : (r : Record) → decoded l ≡ r → Ranged r
    go wrong e = tt
    go (component k d) e = rw e at (decoded_range l small (λ w. let z : ◌≡◌ {A = ℕ} 0 1 = cc in omega arith))
    go (part x) e = rw e at (decoded_range l small (λ w. let z : ◌≡◌ {A = ℕ} 0 1 = cc in omega arith))

module _ (file : List ℕ) (i : ℕ) where
  pub sixteen_small : Bytes file → Bytes (sixteen file i)
  sixteen_small small = taken 16 (drop (record_place i) file) (dropped (record_place i) file small)

  -- Byte j of record i.
  pub byte_at : (j : ℕ) → j < 16 → get_or (sixteen file i) j 0 ≡ get_or file (record_place i + j) 0
  byte_at j l = get_or-take 16 (drop (record_place i) file) j 0 l ∙ get_or-drop (record_place i) file j 0

  pub look_is : record_place i + 16 ≤ length file → look file i ≡ the_port (sixteen file i)
  unfolding look
  look_is l =
      let a : record_place i + 3 ≡ record_place i + 2 + 1 = omega arith in
      let b : record_place i + 5 ≡ record_place i + 4 + 1 = omega arith in
      let m : look_place file i ≡ record_place i = omega (arith, l) in
      rw (le-ltb (length file) 24 (omega (arith, l)), m, byte_at 2 (omega arith), byte_at 3 (omega arith), byte_at 4 (omega arith), byte_at 5 (omega arith), byte_at 6 (omega arith), a, b)

-- The port in the bytes of a port record.
port_there : (p : Port) → PortRange p → (the_port (encoded (part (input p))) ≡ p) × (the_port (encoded (part (output p))) ≡ p)
unfolding encoded
port_there p h =
    let a : number 2 (encoded (part (input p))) 2 ≡ p.start = number_bytes 2 (encoded (part (input p))) 2 p.start (omega arith) (omega arith) refl in
    let b : number 2 (encoded (part (input p))) 4 ≡ p.end = number_bytes 2 (encoded (part (input p))) 4 p.end (omega arith) (omega arith) refl in
    (rw (a, b), rw (a, b))

module _ (l : List ℕ) (small : Bytes l) (p : Port) where
  not_wrong : (x : Part) → decoded l ≡ part x → decoded l ≡ wrong → ⊥
  not_wrong x e w = let z : ◌≡◌ {A = ℕ} 0 1 = cc in omega arith

  pub input_port : decoded l ≡ part (input p) → the_port l ≡ p
  input_port e =
      let n = not_wrong (input p) e in
      let b : encoded (part (input p)) ≡ l = rw e at (encoded_decoded l small n) in
      ap the_port (sym b) ∙ (port_there p (rw e at (decoded_range l small n))).0

  pub output_port : decoded l ≡ part (output p) → the_port l ≡ p
  output_port e =
      let n = not_wrong (output p) e in
      let b : encoded (part (output p)) ≡ l = rw e at (encoded_decoded l small n) in
      ap the_port (sym b) ∙ (port_there p (rw e at (decoded_range l small n))).1
