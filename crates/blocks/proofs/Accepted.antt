-- Laws about `sound`, both ways: what an accepted file's blocks are, each by itself.
-- Assumes nothing.
use Prim.Native.Nat.{ℕ, zero, suc, ◌+◌, ◌-◌, ◌*◌, ◌≤◌, ◌<◌}
use Rattle.std.specs.Prelude.{◌≡◌, List, Bool, cond, ◌&&◌, length, get_or, drop, ltb}
use Rattle.std.proofs.Math.Path.{refl}
use Rattle.std.proofs.Common.{sym, ◌∙◌, zero-add, add-zero, get_or-take, get_or-drop}
use Rattle.std.proofs.Math.Bool.{true, false}
use native.Mathlib.Omega.{arith}
use Rattle.std.proofs.Math.Dec.{eqb}
use borrow.Author.Tests.{ltb-true, eqb-true, eq-eqb}
use Rattle.answers.specs.Fault as Fault
use Rattle.answers.specs.Answer.{Answer, accepted, refused, then, refusal, Sure, Refusal}
use Rattle.answers.specs.Once.{apart}
use Rattle.numbers.specs.Numbers.{number}
use Rattle.numbers.specs.Tests.{and_both, between, between_back}
use Rattle.blocks.specs.Block.{count_allowed, mark, check_right, header_right}
use Rattle.blocks.specs.File.{length_allowed, block_count, block, record_count, sound_from, sound, record_place, present, record_answer}
use Rattle.blocks.specs.Sound.{Header, Right, Sound}

module _ (block : List ℕ) (n : ℕ) (last : Bool) where
  pub header : header_right block n last ≡ true → Header block n last
  unfolding header_right
  header e =
      let c = and_both (count_allowed (get_or block 4 0) last) _ e in
      let r = and_both (eqb (number 4 block 0) n && eqb (get_or block 5 0) (mark last) && (eqb (get_or block 6 0) 0 && eqb (get_or block 7 0) 0)) _ c.1 in
      let g = and_both (eqb (number 4 block 0) n && eqb (get_or block 5 0) (mark last)) _ r.0 in
      let m = and_both (eqb (number 4 block 0) n) _ g.0 in
      let z = and_both (eqb (get_or block 6 0) 0) _ g.1 in
      record {
        count = between 1 31 _ _ c.0;
        numbered = eqb-true _ _ m.0;
        marked = eqb-true _ _ m.1;
        gap = eqb-true _ _ z.0;
        gap_2 = eqb-true _ _ z.1;
        rest = r.1;
      }

  pub header_back : Header block n last → header_right block n last ≡ true
  unfolding header_right
  header_back h =
      rw (
        between_back 1 31 _ _ h.count,
        eq-eqb _ _ h.numbered,
        eq-eqb _ _ h.marked,
        eq-eqb _ _ h.gap,
        eq-eqb _ _ h.gap_2,
        h.rest,
      )

module _ (file : List ℕ) where
  -- One turn that goes on.
  passed : (c h : Bool) (x : Answer ℕ) (p q : Refusal) (r : ℕ) → cond c (cond h x (refused p)) (refused q) ≡ accepted r → (c ≡ true) × (h ≡ true) × (x ≡ accepted r)
  passed true true x p q r e = (refl, refl, e)
  passed true false x p q r e = absurd (apart (sym e))
  passed false h x p q r e = absurd (apart (sym e))

  turn : (left b r : ℕ) → sound_from file (suc left) b ≡ accepted r → Right file b × (sound_from file left (b + 1) ≡ accepted r)
  unfolding sound_from
  turn left b r e =
      let q = passed (check_right (block file b)) (header_right (block file b) b (eqb (b + 1) (block_count file))) (sound_from file left (b + 1)) _ _ r e in
      (record { check = q.0; head = header _ _ _ q.1 }, q.2)

  right_from : (left b r : ℕ) → sound_from file left b ≡ accepted r → (j : ℕ) → j < left → Right file (b + j)
  right_from zero b r e j p = absurd (omega arith)
  right_from (suc left) b r e zero p = rw (add-zero b) (turn left b r e).0
  right_from (suc left) b r e (suc j) p =
      let w : b + suc j ≡ b + 1 + j = omega arith in
      rw w (right_from left (b + 1) r (turn left b r e).1 j (omega arith))

  count_from : (left b r : ℕ) → sound_from file left b ≡ accepted r → r ≡ record_count file
  unfolding sound_from
  count_from zero b r e = cc
  count_from (suc left) b r e = count_from left (b + 1) r (turn left b r e).1

  from_right : (left b : ℕ) → ((j : ℕ) → j < left → Right file (b + j)) → sound_from file left b ≡ accepted (record_count file)
  unfolding sound_from
  from_right zero b h = refl
  from_right (suc left) b h =
      let t : Right file b = rw (add-zero b) at (h 0 (omega arith)) in
      let i : (j : ℕ) → j < left → Right file (b + 1 + j) = λ j p. (let w : b + suc j ≡ b + 1 + j = omega arith in rw w at (h (suc j) (omega arith))) in
      rw (t.check, header_back _ _ _ t.head) (from_right left (b + 1) i)

  -- Past the test of the length.
  begun : (l : Bool) (x : Answer ℕ) (p : Refusal) (r : ℕ) → cond l x (refused p) ≡ accepted r → (l ≡ true) × (x ≡ accepted r)
  begun true x p r e = (refl, e)
  begun false x p r e = absurd (apart (sym e))

  pub sound_blocks : (r : ℕ) → sound file ≡ accepted r → Sound file
  unfolding sound
  sound_blocks r e =
      let q = begun (length_allowed (length file)) (sound_from file (block_count file) 0) _ r e in
      record {
        allowed = between 512 65536 _ _ q.0;
        right = λ b p. rw (zero-add b) at (right_from (block_count file) 0 r q.1 b p);
      }

  pub sound_count : (r : ℕ) → sound file ≡ accepted r → r ≡ record_count file
  unfolding sound
  sound_count r e = count_from (block_count file) 0 r (begun (length_allowed (length file)) (sound_from file (block_count file) 0) _ r e).1

  pub sound_back : Sound file → sound file ≡ accepted (record_count file)
  unfolding sound
  sound_back s =
      rw (between_back 512 65536 (length file) _ s.allowed)
      (from_right (block_count file) 0 (λ j p. rw (zero-add j) (s.right j p)))

  -- A refusal has some refusal's number.
  from_sure : (left b : ℕ) → Sure (sound_from file left b)
  unfolding sound_from
  from_sure zero b = tt
  from_sure (suc left) b = go (from_sure left (b + 1)) (check_right (block file b)) (header_right (block file b) b (eqb (b + 1) (block_count file)))
    where
      go : Sure (sound_from file left (b + 1)) → (c h : Bool) → Sure (cond c (cond h (sound_from file left (b + 1)) (refused (refusal Fault.Header b))) (refused (refusal Fault.Check b)))
      go more true true = more
      go more true false = omega arith
      go more false h = omega arith

  pub sound_sure : Sure (sound file)
  unfolding sound
  sound_sure = go (length_allowed (length file))
    where
      go : (l : Bool) → Sure (cond l (sound_from file (block_count file) 0) (refused (refusal Fault.Length 0)))
      go true = from_sure (block_count file) 0
      go false = omega arith

  -- Byte i of block b.
  pub in_block : (b i : ℕ) → i < 512 → get_or (block file b) i 0 ≡ get_or file (512 * b + i) 0
  in_block b i p = let w : 512 * b + 512 - 512 * b ≡ 512 = omega arith in rw w (get_or-take 512 (drop (512 * b) file) i 0 p ∙ get_or-drop (512 * b) file i 0)

  -- No more records than slots.
  pub records_fit : Sound file → record_count file ≤ 31 * block_count file
  unfolding record_count
  records_fit s =
      let n = block_count file in
      let a = s.allowed in
      let m = (s.right (n - 1) (omega arith)).head.count.most in
      let e = in_block (n - 1) 4 (omega arith) in
      omega arith

  -- A record that is there stands within the file.
  answered : (i : ℕ) (a : Answer ℕ) → then a (present i) ≡ accepted tt → (n : ℕ) × (a ≡ accepted n) × (i < n)
  answered i (refused r) e = absurd (apart (sym e))
  answered i (accepted n) e = go (ltb i n) refl e
    where
      go : (t : Bool) → ltb i n ≡ t → ◌≡◌ {A = Answer Unit} (cond t (accepted tt) (refused (refusal Fault.Absent i))) (accepted tt) → (m : ℕ) × (◌≡◌ {A = Answer ℕ} (accepted n) (accepted m)) × (i < m)
      go true q e = (n, refl, ltb-true i n q)
      go false q e = absurd (apart (sym e))

  pub record_within : (i : ℕ) → record_answer file i ≡ accepted tt → record_place i + 16 ≤ length file
  unfolding record_answer
  record_within i e =
      let q = answered i (sound file) e in
      let s = sound_blocks q.0 q.1 in
      let f = records_fit s in
      let c = sound_count q.0 q.1 in
      let l = q.2 in
      let a = s.allowed in
      omega arith
