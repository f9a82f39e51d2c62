-- The kind and the numbers in the bytes of a record, and in the file.
-- Assumes nothing.
use Prim.Native.Nat.{ℕ, ◌+◌}
use mathlib.Core.Path.{◌≡◌, refl, sym, ap, ◌∙◌}
use mathlib.Core.List.{List}
use mathlib.Core.Logic.{◌≢◌}
use native.Mathlib.Omega.{arith}
use Rattle.numbers.specs.Numbers.{Bytes}
use Rattle.numbers.proofs.Bytes.{number_bytes}
use Rattle.blocks.specs.File.{record_place}
use Rattle.timeline.specs.Design.{Class, Port, Source, Call}
use Rattle.entry.specs.Records as Records
use Rattle.entry.specs.Records.{Record, wrong, part}
use Rattle.records.specs.Decoded.{decoded, byte, word}
use Rattle.records.specs.Encoded.{encoded}
use Rattle.records.proofs.Main.{encoded_decoded, decoded_range}
use Rattle.look.specs.Look.{sixteen, kind, first_number, second_number}
use Rattle.look.proofs.Laws.{byte_at}

-- The kind and the numbers in the bytes of a record that decodes.
module _ (l : List ℕ) (small : Bytes l) where
  its_bytes : (x : Record) → decoded l ≡ x → x ≢ wrong → encoded x ≡ l
  its_bytes x e right = rw e at (encoded_decoded l small (λ w. right (sym e ∙ w)))

  pub component_kind : (k : Class) (d : ℕ) → decoded l ≡ Records.component k d → byte l 0 ≡ 1
  unfolding encoded
  component_kind k d e = ap (λ (b : List ℕ). byte b 0) (sym (its_bytes (Records.component k d) e (λ w. let z : ◌≡◌ {A = ℕ} 0 1 = cc in omega arith)))

  pub input_kind : (p : Port) → decoded l ≡ part (Records.input p) → byte l 0 ≡ 2
  unfolding encoded
  input_kind p e = ap (λ (b : List ℕ). byte b 0) (sym (its_bytes (part (Records.input p)) e (λ w. let z : ◌≡◌ {A = ℕ} 0 1 = cc in omega arith)))

  pub output_kind : (p : Port) → decoded l ≡ part (Records.output p) → byte l 0 ≡ 2
  unfolding encoded
  output_kind p e = ap (λ (b : List ℕ). byte b 0) (sym (its_bytes (part (Records.output p)) e (λ w. let z : ◌≡◌ {A = ℕ} 0 1 = cc in omega arith)))

  pub connection_kind : (s : Source) → decoded l ≡ part (Records.connection s) → byte l 0 ≡ 6
  unfolding encoded
  connection_kind s e = ap (λ (b : List ℕ). byte b 0) (sym (its_bytes (part (Records.connection s)) e (λ w. let z : ◌≡◌ {A = ℕ} 0 1 = cc in omega arith)))

  pub instance_there : (m : ℕ) → decoded l ≡ part (Records.instance m) → (byte l 0 ≡ 3) × (word l 2 ≡ m)
  unfolding encoded
  instance_there m e =
      let w : part (Records.instance m) ≢ wrong = λ w. let z : ◌≡◌ {A = ℕ} 0 1 = cc in omega arith in
      let b = its_bytes (part (Records.instance m)) e w in
      let r = rw e at (decoded_range l small (λ v. w (sym e ∙ v))) in
      (ap (λ (b : List ℕ). byte b 0) (sym b), ap (λ (b : List ℕ). word b 2) (sym b) ∙ number_bytes 2 (encoded (part (Records.instance m))) 2 m (omega arith) (omega (arith, r)) refl)

  pub invocation_there : (v : Call) → decoded l ≡ part (Records.invocation v) → (byte l 0 ≡ 4) × (word l 2 ≡ v.instance) × (word l 4 ≡ v.offset)
  unfolding encoded
  invocation_there v e =
      let w : part (Records.invocation v) ≢ wrong = λ w. let z : ◌≡◌ {A = ℕ} 0 1 = cc in omega arith in
      let b = its_bytes (part (Records.invocation v)) e w in
      let r = rw e at (decoded_range l small (λ u. w (sym e ∙ u))) in (
        ap (λ (b : List ℕ). byte b 0) (sym b),
        ap (λ (b : List ℕ). word b 2) (sym b) ∙ number_bytes 2 (encoded (part (Records.invocation v))) 2 v.instance (omega arith) (omega (arith, r)) refl,
        ap (λ (b : List ℕ). word b 4) (sym b) ∙ number_bytes 2 (encoded (part (Records.invocation v))) 4 v.offset (omega arith) (omega (arith, r)) refl,
      )

-- The same bytes in the file.
module _ (file : List ℕ) (i : ℕ) where
  pub kind_is : kind file i ≡ byte (sixteen file i) 0
  kind_is = let e : record_place i + 0 ≡ record_place i = omega arith in sym (rw e at (byte_at file i 0 (omega arith)))

  pub first_is : first_number file i ≡ word (sixteen file i) 2
  first_is = let a : record_place i + 3 ≡ record_place i + 2 + 1 = omega arith in rw (byte_at file i 2 (omega arith), byte_at file i 3 (omega arith), a)

  pub second_is : second_number file i ≡ word (sixteen file i) 4
  second_is = let a : record_place i + 5 ≡ record_place i + 4 + 1 = omega arith in rw (byte_at file i 4 (omega arith), byte_at file i 5 (omega arith), a)
