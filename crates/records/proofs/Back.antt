-- Whatever decodes is the encoding of what it decodes to, and in range. The idea: a list of sixteen bytes is its fields one after the other, and what no field names is zero.
-- Assumes nothing.
use Prim.Native.Nat.{ℕ, ◌+◌, ◌-◌, ◌≤◌, ◌<◌}
use mathlib.Core.Path.{◌≡◌, refl, ap, sym, ◌∙◌}
use mathlib.Core.List.{List, ◌∷◌, ◌++◌, append-nil}
use mathlib.Core.Bool.{Bool, true, false, cond, ◌&&◌}
use mathlib.Core.Logic.{◌≢◌}
use native.Mathlib.Omega.{arith}
use native.Mathlib.Numerals.{add-one}
use lib.ListN.{length, get_or, take, drop, replicate, length-drop, take-append-drop, drop_of_length-le}
use lib.Seq.{drop-cons, drop-drop, length-take-le}
use lib.Dec.{ltb, leb, eqb}
use borrow.Author.Tests.{leb-true, ltb-true, eqb-true}
use Rattle.timeline.specs.Design.{leaf, built, Source, own, output_of, constant}
use Rattle.timeline.specs.Rules.{PortRange, SourceRange}
use Rattle.entry.specs.Records.{Record, wrong, component, part, input, output, instance, invocation}
use Rattle.entry.specs.Asks.{InRange}
use Rattle.numbers.specs.Numbers.{number, bytes, all_zero, Bytes}
use Rattle.numbers.specs.Tests.{and_both, between}
use Rattle.numbers.proofs.Bytes.{bytes_number, number_small}
use Rattle.numbers.proofs.Zeros.{zeros_are}
use Rattle.blocks.specs.Block as Block
use Rattle.records.specs.Decoded.{byte, word, the_port, component_in, port_in, instance_in, invocation_in, Named, from, nothing, source_in, argument_of, connection_of, decoded}
use Rattle.records.specs.Encoded.{port_bytes, source_bytes, encoded}

-- r is in range, and these are its bytes.
pub record Right (l : List ℕ) (r : Record) : Type 0 where
  pub range : InRange r
  pub is : encoded r ≡ l

apart : {s : Source} → nothing ≡ from s → ⊥
apart e = let z : ◌≡◌ {A = ℕ} 0 1 = cc in omega arith

module _ (l : List ℕ) (sixteen : length l ≡ 16) (small : Bytes l) where
  -- The bytes from a place on: one, a number, and zeros to the end.
  byte_on : (at : ℕ) → at < 16 → drop at l ≡ get_or l at 0 ∷ drop (at + 1) l
  byte_on at p = rw (add-one) (drop-cons l at 0 (omega arith))

  number_on : (w at : ℕ) → at + w ≤ 16 → drop at l ≡ bytes w (number w l at) ++ drop (at + w) l
  number_on w at p =
      rw (bytes_number w l at small (omega arith), ← drop-drop w at l) (sym (take-append-drop w (drop at l)))

  zeros_on : (at : ℕ) → all_zero (drop at l) ≡ true → drop at l ≡ replicate (16 - at) 0
  zeros_on at e = zeros_are (drop at l) e ∙ ap (λ (n : ℕ). replicate n 0) (length-drop at l ∙ ap (λ (n : ℕ). n - at) sixteen)

  -- A record's bytes after the first two.
  one_word : all_zero (drop 4 l) ≡ true → drop 2 l ≡ bytes 2 (word l 2) ++ replicate 12 0
  one_word e = number_on 2 2 (omega arith) ∙ ap (λ (x : List ℕ). bytes 2 (word l 2) ++ x) (zeros_on 4 e)

  two_words : all_zero (drop 6 l) ≡ true → drop 2 l ≡ bytes 2 (word l 2) ++ (bytes 2 (word l 4) ++ replicate 10 0)
  two_words e =
      number_on 2 2 (omega arith)
      ∙ ap (λ (x : List ℕ). bytes 2 (word l 2) ++ x) (number_on 2 4 (omega arith) ∙ ap (λ (x : List ℕ). bytes 2 (word l 4) ++ x) (zeros_on 6 e))

  port_words : all_zero (drop 7 l) ≡ true → drop 2 l ≡ port_bytes (the_port l)
  port_words e =
      number_on 2 2 (omega arith)
      ∙ ap (λ (x : List ℕ). bytes 2 (word l 2) ++ x)
      (number_on 2 4 (omega arith) ∙ ap (λ (x : List ℕ). bytes 2 (word l 4) ++ x) (byte_on 6 (omega arith) ∙ ap (λ (x : List ℕ). byte l 6 ∷ x) (zeros_on 7 e)))

  constant_words : all_zero (Block.part l 2 8) ≡ true → drop 2 l ≡ replicate 6 0 ++ bytes 8 (number 8 l 8)
  constant_words e =
      let n : length (take 6 (drop 2 l)) ≡ 6 = length-take-le 6 (drop 2 l) (simp length-drop (omega arith)) in
      let z : take 6 (drop 2 l) ≡ replicate 6 0 = zeros_are (take 6 (drop 2 l)) e ∙ ap (λ (k : ℕ). replicate k 0) n in
      let c : drop 8 l ≡ bytes 8 (number 8 l 8) = number_on 8 8 (omega arith) ∙ ap (λ (x : List ℕ). bytes 8 (number 8 l 8) ++ x) (drop_of_length-le l {i = 16} (omega arith)) ∙ append-nil (bytes 8 (number 8 l 8)) in
      sym (take-append-drop 6 (drop 2 l)) ∙ ap (λ (x : List ℕ). x ++ drop 6 (drop 2 l)) z ∙ ap (λ (x : List ℕ). replicate 6 0 ++ x) (drop-drop 6 2 l ∙ c)

  -- The first two bytes, and the rest.
  headed : (k c : ℕ) (rest : List ℕ) → byte l 0 ≡ k → byte l 1 ≡ c → drop 2 l ≡ rest → k ∷ c ∷ rest ≡ l
  headed k c rest e f g = rw (← e, ← f, ← g) (sym (byte_on 0 (omega arith) ∙ ap (λ (x : List ℕ). byte l 0 ∷ x) (byte_on 1 (omega arith))))

  component_right : byte l 0 ≡ 1 → component_in l ≢ wrong → Right l (component_in l)
  unfolding encoded
  component_right k = go (leb 1 (word l 2) && leb (word l 2) 1024 && all_zero (drop 4 l)) refl (eqb (byte l 1) 0) refl (eqb (byte l 1) 1) refl
    where
      range : (leb 1 (word l 2) && leb (word l 2) 1024 && all_zero (drop 4 l)) ≡ true → (1 ≤ word l 2) × (word l 2 ≤ 1024) × (all_zero (drop 4 l) ≡ true)
      range e = let b = between 1 1024 (word l 2) (all_zero (drop 4 l)) e in (b.least, b.most, b.also)

      go : (t : Bool) → (leb 1 (word l 2) && leb (word l 2) 1024 && all_zero (drop 4 l)) ≡ t → (u : Bool) → eqb (byte l 1) 0 ≡ u → (v : Bool) → eqb (byte l 1) 1 ≡ v
          → cond t (cond u (component leaf (word l 2)) (cond v (component built (word l 2)) wrong)) wrong ≢ wrong
          → Right l (cond t (cond u (component leaf (word l 2)) (cond v (component built (word l 2)) wrong)) wrong)
      go true e true f v g n = let r = range e in record { range = (r.0, r.1); is = headed 1 0 _ k (eqb-true _ _ f) (one_word r.2) }
      go true e false f true g n = let r = range e in record { range = (r.0, r.1); is = headed 1 1 _ k (eqb-true _ _ g) (one_word r.2) }
      go true e false f false g n = absurd (n refl)
      go false e u f v g n = absurd (n refl)

  port_right : byte l 0 ≡ 2 → port_in l ≢ wrong → Right l (port_in l)
  unfolding encoded
  port_right k = go (ltb (word l 2) (word l 4) && leb (word l 4) 1024 && leb 1 (byte l 6) && leb (byte l 6) 64 && all_zero (drop 7 l)) refl (eqb (byte l 1) 0) refl (eqb (byte l 1) 1) refl
    where
      range : (ltb (word l 2) (word l 4) && leb (word l 4) 1024 && leb 1 (byte l 6) && leb (byte l 6) 64 && all_zero (drop 7 l)) ≡ true → PortRange (the_port l) × (all_zero (drop 7 l) ≡ true)
      range e =
          let a = and_both (ltb (word l 2) (word l 4) && leb (word l 4) 1024 && leb 1 (byte l 6) && leb (byte l 6) 64) (all_zero (drop 7 l)) e in
          let b = and_both (ltb (word l 2) (word l 4) && leb (word l 4) 1024 && leb 1 (byte l 6)) (leb (byte l 6) 64) a.0 in
          let c = and_both (ltb (word l 2) (word l 4) && leb (word l 4) 1024) (leb 1 (byte l 6)) b.0 in
          let d = and_both (ltb (word l 2) (word l 4)) (leb (word l 4) 1024) c.0 in
          (record { some = ltb-true _ _ d.0; most = leb-true _ _ d.1; wide = leb-true _ _ c.1; narrow = leb-true _ _ b.1 }, a.1)

      go : (t : Bool) → (ltb (word l 2) (word l 4) && leb (word l 4) 1024 && leb 1 (byte l 6) && leb (byte l 6) 64 && all_zero (drop 7 l)) ≡ t
          → (u : Bool) → eqb (byte l 1) 0 ≡ u → (v : Bool) → eqb (byte l 1) 1 ≡ v
          → cond t (cond u (part (input (the_port l))) (cond v (part (output (the_port l))) wrong)) wrong ≢ wrong
          → Right l (cond t (cond u (part (input (the_port l))) (cond v (part (output (the_port l))) wrong)) wrong)
      go true e true f v g n = let r = range e in record { range = r.0; is = headed 2 0 _ k (eqb-true _ _ f) (port_words r.1) }
      go true e false f true g n = let r = range e in record { range = r.0; is = headed 2 1 _ k (eqb-true _ _ g) (port_words r.1) }
      go true e false f false g n = absurd (n refl)
      go false e u f v g n = absurd (n refl)

  instance_right : byte l 0 ≡ 3 → instance_in l ≢ wrong → Right l (instance_in l)
  unfolding encoded
  instance_right k = go (eqb (byte l 1) 0 && ltb (word l 2) 64 && all_zero (drop 4 l)) refl
    where
      go : (t : Bool) → (eqb (byte l 1) 0 && ltb (word l 2) 64 && all_zero (drop 4 l)) ≡ t
          → cond t (part (instance (word l 2))) wrong ≢ wrong → Right l (cond t (part (instance (word l 2))) wrong)
      go false e n = absurd (n refl)
      go true e n =
          let a = and_both (eqb (byte l 1) 0 && ltb (word l 2) 64) (all_zero (drop 4 l)) e in
          let b = and_both (eqb (byte l 1) 0) (ltb (word l 2) 64) a.0 in
          record { range = ltb-true _ _ b.1; is = headed 3 0 _ k (eqb-true _ _ b.0) (one_word a.1) }

  invocation_right : byte l 0 ≡ 4 → invocation_in l ≢ wrong → Right l (invocation_in l)
  unfolding encoded
  invocation_right k = go (eqb (byte l 1) 0 && ltb (word l 2) 32 && ltb (word l 4) 1024 && all_zero (drop 6 l)) refl
    where
      go : (t : Bool) → (eqb (byte l 1) 0 && ltb (word l 2) 32 && ltb (word l 4) 1024 && all_zero (drop 6 l)) ≡ t
          → cond t (part (invocation (record { instance = word l 2; offset = word l 4 }))) wrong ≢ wrong
          → Right l (cond t (part (invocation (record { instance = word l 2; offset = word l 4 }))) wrong)
      go false e n = absurd (n refl)
      go true e n =
          let a = and_both (eqb (byte l 1) 0 && ltb (word l 2) 32 && ltb (word l 4) 1024) (all_zero (drop 6 l)) e in
          let b = and_both (eqb (byte l 1) 0 && ltb (word l 2) 32) (ltb (word l 4) 1024) a.0 in
          let c = and_both (eqb (byte l 1) 0) (ltb (word l 2) 32) b.0 in
          record { range = (ltb-true _ _ c.1, ltb-true _ _ b.1); is = headed 4 0 _ k (eqb-true _ _ c.0) (two_words a.1) }

  -- A source that is named is in range, and these are its bytes, behind the kind.
  pub record Sourced (k : ℕ) (s : Source) : Type 0 where
    pub range : SourceRange s
    pub is : k ∷ source_bytes s ≡ l

  source_right : (k : ℕ) → byte l 0 ≡ k → (s : Source) → source_in l ≡ from s → Sourced k s
  source_right k e s = go (eqb (byte l 1) 0) refl (eqb (byte l 1) 1) refl (eqb (byte l 1) 2) refl
      (ltb (word l 2) 16 && all_zero (drop 4 l)) refl (ltb (word l 2) 64 && ltb (word l 4) 16 && all_zero (drop 6 l)) refl (all_zero (Block.part l 2 8)) refl
    where
      go : (u : Bool) → eqb (byte l 1) 0 ≡ u → (v : Bool) → eqb (byte l 1) 1 ≡ v → (w : Bool) → eqb (byte l 1) 2 ≡ w
          → (x : Bool) → (ltb (word l 2) 16 && all_zero (drop 4 l)) ≡ x → (y : Bool) → (ltb (word l 2) 64 && ltb (word l 4) 16 && all_zero (drop 6 l)) ≡ y
          → (z : Bool) → all_zero (Block.part l 2 8) ≡ z
          → cond u (cond x (from (own (word l 2))) nothing) (cond v (cond y (from (output_of (word l 2) (word l 4))) nothing) (cond w (cond z (from (constant (number 8 l 8))) nothing) nothing)) ≡ from s
          → Sourced k s
      go true a v b w c true f y g z h n =
          let q = and_both (ltb (word l 2) 16) (all_zero (drop 4 l)) f in
          let i : own (word l 2) ≡ s = cc in
          rw (← i) (record { range = ltb-true _ _ q.0; is = headed k 0 _ e (eqb-true _ _ a) (one_word q.1) })
      go true a v b w c false f y g z h n = absurd (apart n)
      go false a true b w c x f true g z h n =
          let q = and_both (ltb (word l 2) 64 && ltb (word l 4) 16) (all_zero (drop 6 l)) g in
          let r = and_both (ltb (word l 2) 64) (ltb (word l 4) 16) q.0 in
          let i : output_of (word l 2) (word l 4) ≡ s = cc in
          rw (← i) (record { range = (ltb-true _ _ r.0, ltb-true _ _ r.1); is = headed k 1 _ e (eqb-true _ _ b) (two_words q.1) })
      go false a true b w c x f false g z h n = absurd (apart n)
      go false a false b true c x f y g true h n =
          let i : constant (number 8 l 8) ≡ s = cc in
          rw (← i) (record { range = number_small 8 l 8 small (omega arith); is = headed k 2 _ e (eqb-true _ _ c) (constant_words h) })
      go false a false b true c x f y g false h n = absurd (apart n)
      go false a false b false c x f y g z h n = absurd (apart n)

  argument_right : byte l 0 ≡ 5 → argument_of (source_in l) ≢ wrong → Right l (argument_of (source_in l))
  unfolding encoded
  argument_right k = go (source_in l) refl
    where
      go : (s : Named) → source_in l ≡ s → argument_of s ≢ wrong → Right l (argument_of s)
      go (from s) e n = let r = source_right 5 k s e in record { range = r.range; is = r.is }
      go nothing e n = absurd (n refl)

  connection_right : byte l 0 ≡ 6 → connection_of (source_in l) ≢ wrong → Right l (connection_of (source_in l))
  unfolding encoded
  connection_right k = go (source_in l) refl
    where
      go : (s : Named) → source_in l ≡ s → connection_of s ≢ wrong → Right l (connection_of s)
      go (from s) e n = let r = source_right 6 k s e in record { range = r.range; is = r.is }
      go nothing e n = absurd (n refl)

-- The record as the tests of length and kind choose it.
abbrev chosen : List ℕ → (t a b c d e f : Bool) → Record
chosen l t a b c d e f =
    cond t
    (cond a (component_in l)
    (cond b (port_in l)
    (cond c (instance_in l)
    (cond d (invocation_in l)
    (cond e (argument_of (source_in l))
    (cond f (connection_of (source_in l))
    wrong))))))
    wrong

pub decoded_right : (l : List ℕ) → Bytes l → decoded l ≢ wrong → Right l (decoded l)
unfolding decoded
decoded_right l small = go (eqb (length l) 16) refl (eqb (byte l 0) 1) refl (eqb (byte l 0) 2) refl (eqb (byte l 0) 3) refl (eqb (byte l 0) 4) refl (eqb (byte l 0) 5) refl (eqb (byte l 0) 6) refl
  where
    go : (t : Bool) → eqb (length l) 16 ≡ t → (a : Bool) → eqb (byte l 0) 1 ≡ a → (b : Bool) → eqb (byte l 0) 2 ≡ b → (c : Bool) → eqb (byte l 0) 3 ≡ c
        → (d : Bool) → eqb (byte l 0) 4 ≡ d → (e : Bool) → eqb (byte l 0) 5 ≡ e → (f : Bool) → eqb (byte l 0) 6 ≡ f → chosen l t a b c d e f ≢ wrong → Right l (chosen l t a b c d e f)
    go false s a p b q c r d u e v f w n = absurd (n refl)
    go true s true p b q c r d u e v f w n = component_right l (eqb-true _ _ s) small (eqb-true _ _ p) n
    go true s false p true q c r d u e v f w n = port_right l (eqb-true _ _ s) small (eqb-true _ _ q) n
    go true s false p false q true r d u e v f w n = instance_right l (eqb-true _ _ s) small (eqb-true _ _ r) n
    go true s false p false q false r true u e v f w n = invocation_right l (eqb-true _ _ s) small (eqb-true _ _ u) n
    go true s false p false q false r false u true v f w n = argument_right l (eqb-true _ _ s) small (eqb-true _ _ v) n
    go true s false p false q false r false u false v true w n = connection_right l (eqb-true _ _ s) small (eqb-true _ _ w) n
    go true s false p false q false r false u false v false w n = absurd (n refl)
