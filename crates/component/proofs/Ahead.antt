-- How the light look at the instances ahead goes on and ends, and that it sees what the records say.
-- Assumes nothing.
use Prim.Native.Nat.{ℕ, zero, suc, ◌+◌, ◌-◌, ◌<◌, ◌≤◌}
use mathlib.Core.Bool.{Bool, true, false, not, ◌||◌}
use mathlib.Core.Path.{◌≡◌, refl, ap, ◌∙◌}
use mathlib.Core.List.{List, [], ◌∷◌}
use mathlib.Core.Logic.{◌≢◌}
use native.Mathlib.Omega.{arith}
use native.Mathlib.Numerals.{add-one}
use lib.Dec.{eqb, leb}
use borrow.Author.Tests.{eq-eqb, ne_eqb, lt-leb}
use Rattle.numbers.specs.Numbers.{Bytes}
use Rattle.timeline.specs.Design.{Port}
use Rattle.entry.specs.Records.{part, input, output, instance}
use Rattle.records.specs.Decoded.{decoded}
use Rattle.look.specs.Look.{sixteen, kind, first_number}
use Rattle.look.proofs.Laws.{sixteen_small}
use Rattle.look.proofs.Light.{kind_is, first_is, input_kind, output_kind, instance_there}
use Rattle.component.specs.Ahead.{ahead}

-- No instance, or one of no component below 64, or one too many.
abbrev pub past : List ℕ → (i before : ℕ) → Bool
past file i before = not (eqb (kind file i) 3) || (leb 64 (first_number file i) || leb 32 before)

module _ (file : List ℕ) (n i before : ℕ) where
  one_more : i < n → n - i ≡ suc (n - (i + 1))
  one_more l = omega arith

  pub ahead_port : i < n → kind file i ≡ 2 → ahead file (n - i) i before ≡ ahead file (n - (i + 1)) (i + 1) before
  unfolding ahead
  ahead_port l e = rw (one_more l, add-one i, eq-eqb (kind file i) 2 e)

  pub ahead_stop : i < n → kind file i ≢ 2 → past file i before ≡ true → ahead file (n - i) i before ≡ []
  unfolding ahead
  ahead_stop l d e = rw (one_more l, ne_eqb (kind file i) 2 d, e)

  pub ahead_more : i < n → kind file i ≢ 2 → past file i before ≡ false → ahead file (n - i) i before ≡ first_number file i ∷ ahead file (n - (i + 1)) (i + 1) (before + 1)
  unfolding ahead
  ahead_more l d e = rw (one_more l, add-one i, add-one before, ne_eqb (kind file i) 2 d, e)

  pub ahead_end : n ≤ i → ahead file (n - i) i before ≡ []
  unfolding ahead
  ahead_end l = let z : n - i ≡ 0 = omega arith in rw z

  -- What the records say.
  module _ (l : i < n) (small : Bytes file) where
    pub sees_input : (p : Port) → decoded (sixteen file i) ≡ part (input p) → ahead file (n - i) i before ≡ ahead file (n - (i + 1)) (i + 1) before
    sees_input p e = ahead_port l (kind_is file i ∙ input_kind (sixteen file i) (sixteen_small file i small) p e)

    pub sees_output : (p : Port) → decoded (sixteen file i) ≡ part (output p) → ahead file (n - i) i before ≡ ahead file (n - (i + 1)) (i + 1) before
    sees_output p e = ahead_port l (kind_is file i ∙ output_kind (sixteen file i) (sixteen_small file i small) p e)

    pub sees_instance : (c : ℕ) → c < 64 → before < 32 → decoded (sixteen file i) ≡ part (instance c) → ahead file (n - i) i before ≡ c ∷ ahead file (n - (i + 1)) (i + 1) (before + 1)
    sees_instance c b some e =
        let t = instance_there (sixteen file i) (sixteen_small file i small) c e in
        let k : kind file i ≡ 3 = kind_is file i ∙ t.0 in
        let f : first_number file i ≡ c = first_is file i ∙ t.1 in
        let p : past file i before ≡ false = rw (eq-eqb (kind file i) 3 k, f, lt-leb 64 c b, lt-leb 32 before some) in
        ahead_more l (λ z. absurd (omega (arith, k, z))) p ∙ ap (λ (d : ℕ). d ∷ ahead file (n - (i + 1)) (i + 1) (before + 1)) f

-- Ports before record i are passed over.
module _ (file : List ℕ) (n before i : ℕ) (l : i ≤ n) where
  ports_passed : (d at : ℕ) → at + d ≡ i → ((k : ℕ) → at ≤ k → k < i → kind file k ≡ 2) → ahead file (n - at) at before ≡ ahead file (n - i) i before
  ports_passed zero at e a = let z : at ≡ i = omega arith in rw z refl
  ports_passed (suc d) at e a = ahead_port file n at before (omega arith) (a at (omega arith) (omega arith)) ∙ ports_passed d (at + 1) (omega arith) (λ k m b. a k (omega arith) b)

  pub ahead_ports : (at : ℕ) → at ≤ i → ((k : ℕ) → at ≤ k → k < i → kind file k ≡ 2) → ahead file (n - at) at before ≡ ahead file (n - i) i before
  ahead_ports at m a = ports_passed (i - at) at (omega arith) a
