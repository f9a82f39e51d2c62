-- Lists that loops and calls write, one part behind the other.
-- Assumes nothing.
use Prim.Native.Nat.{ℕ, ◌+◌, ◌-◌, ◌*◌, ◌/◌, ◌≤◌, ◌<◌, min}
use mathlib.Core.Path.{◌≡◌, refl, ap, sym, ◌∙◌}
use mathlib.Core.List.{List, ◌++◌, append_assoc, append-nil}
use mathlib.Core.Bool.{Bool}
use native.Mathlib.Omega.{arith}
use native.Mathlib.Numerals.{add-one}
use lib.ListN.{length, get_or, take, drop, replicate, length-append, length-drop, length-take, length-replicate, drop_of_length-le}
use Rattle.numbers.specs.Numbers.{bytes}
use Rattle.numbers.proofs.Bytes.{length_bytes}
use Rattle.fnv.specs.Fnv.{hash}
use Rattle.blocks.specs.Block.{part}
use Rattle.blocks.specs.File.{block_count, block, record_count}
use Rattle.blocks.specs.Sound.{Sound}
use Rattle.packing.specs.Packed.{counting, heading, slots, front, filled, records_of, blocks_for, packed_to, packed, unpacked_to, unpacked}
use Rattle.packing.proofs.Block.{length_front, length_filled}
use Rattle.packing.proofs.Trips.{length_packed_to, stretch, length_stretch, length_unpacked_to, length_unpacked}
use lib.Dec.{eqb}
use lib.Seq.{take-take, take_at, drop_at, drop-drop, take_all}
use lib.Seq.{take-suc-set}
use Rattle.packing.proofs.Trips.{stretch_within}
use lib.ListN.{set, replicate-append-replicate}
use native.Mathlib.Nat.{add-sub_cancel_left}

-- The next part, from place a to place e, behind what is done.
pub next_part : (l r d out : List ℕ) (a e : ℕ) → out ≡ l ++ drop a d → length l ≡ a → a + length r ≡ e → take a out ++ (r ++ drop (e - a) (drop a out)) ≡ (l ++ r) ++ drop e d
next_part l r d out a e h hl he =
    let w : e - a ≡ length r = omega arith in
    rw (h, w, take_at l (drop a d) a hl, drop_at l (drop a d) a hl, drop-drop (length r) a d, he, append_assoc)

-- What stands after the five writes of a block: number, count, records, zeros, check.
module _ (o number count records zeros check : List ℕ) (n : ℕ) where
  abbrev pub out₁ : List ℕ
  out₁ = number ++ drop 4 o

  abbrev pub out₂ : List ℕ
  out₂ = take 4 out₁ ++ (count ++ drop 4 (drop 4 out₁))

  abbrev pub out₃ : List ℕ
  out₃ = take 8 out₂ ++ (records ++ drop (8 + n - 8) (drop 8 out₂))

  abbrev pub out₄ : List ℕ
  out₄ = take (8 + n) out₃ ++ (zeros ++ drop (508 - (8 + n)) (drop (8 + n) out₃))

  abbrev pub out₅ : List ℕ
  out₅ = take 508 out₄ ++ (check ++ drop 4 (drop 508 out₄))

module _ (b : ℕ) (last : Bool) (part o : List ℕ) (few : length part ≤ 496) (room : length o ≡ 512) where
  abbrev n : ℕ
  n = length part

  module _ (number count records zeros check : List ℕ) (en : number ≡ bytes 4 b) (ec : count ≡ counting (length part / 16) last) where
    second : out₂ o number count records zeros check n ≡ (number ++ count) ++ drop 8 o
    second = next_part number count o (out₁ o number count records zeros check n) 4 8 refl (rw en (length_bytes 4 b)) (rw ec refl)

    headed : length (number ++ count) ≡ 8
    headed = rw (en, ec) refl

    module _ (er : records ≡ part) where
      third : out₃ o number count records zeros check n ≡ ((number ++ count) ++ records) ++ drop (8 + n) o
      third = next_part (number ++ count) records o (out₂ o number count records zeros check n) 8 (8 + n) second headed (rw er refl)

      listed : length ((number ++ count) ++ records) ≡ 8 + n
      listed = rw er (simp length-append (omega (arith, simp length-append at headed)))

      -- The part that is cleared, as long as it is.
      pub cleared : length (take (508 - (8 + n)) (drop (8 + n) (out₃ o number count records zeros check n))) ≡ 500 - n
      cleared = rw third (simp (length-take, length-drop, length-append) (omega (arith, simp length-append at listed)))

      module _ (ez : zeros ≡ replicate (500 - n) 0) where
        fourth : out₄ o number count records zeros check n ≡ (((number ++ count) ++ records) ++ zeros) ++ drop 508 o
        fourth = next_part ((number ++ count) ++ records) zeros o (out₃ o number count records zeros check n) (8 + n) 508 third listed (rw ez (simp length-replicate (omega arith)))

        fronted : ((number ++ count) ++ records) ++ zeros ≡ front b last part
        unfolding front heading slots
        fronted = rw (en, ec, er, ez) (append_assoc (heading b last (length part / 16)) part (replicate (500 - n) 0))

        pub front_written : take 508 (out₄ o number count records zeros check n) ≡ front b last part
        front_written = rw fourth (take_at (((number ++ count) ++ records) ++ zeros) (drop 508 o) 508 (rw fronted (length_front b last part few)) ∙ fronted)

        pub block_written : check ≡ bytes 4 (hash (front b last part)) → out₅ o number count records zeros check n ≡ filled b last part
        unfolding filled
        block_written ek =
            next_part (((number ++ count) ++ records) ++ zeros) check o (out₄ o number count records zeros check n) 508 512 fourth (rw fronted (length_front b last part few)) (rw ek refl)
            ∙ rw (fronted, ek, drop_of_length-le o {i = 512} (omega arith)) (append-nil _)

-- ---- blocks one after the other
take_enough : (k m : ℕ) (x : List ℕ) → k ≡ min m (length x) → take k x ≡ take m x
take_enough k m x e = sym (take-take k m x (omega arith)) ∙ take_all k (take m x) (simp length-take (omega arith))

-- What the code takes for block b, up to place e, is the records of block b.
pub records_taken : (list : List ℕ) (b e : ℕ) → e ≡ min (496 * b + 496) (length list) → take (e - 496 * b) (drop (496 * b) list) ≡ records_of list b
records_taken list b e h = take_enough (e - 496 * b) 496 (drop (496 * b) list) (simp length-drop (omega arith))

-- As long as the lent bytes were.
pub as_long : (l r d : List ℕ) (a : ℕ) → length l ≡ a → a ≤ length d → r ≡ l ++ drop a d → length r ≡ length d
as_long l r d a p q e = rw e (simp (length-append, length-drop) (omega arith))

module _ (list d : List ℕ) (n b : ℕ) (out ys : List ℕ) (e : out ≡ packed_to list n b ++ drop (512 * b) d) (h : ys ≡ filled b (eqb (b + 1) n) (records_of list b)) where
  pub pack_more : take (512 * b) out ++ (ys ++ drop (512 * b + 512 - 512 * b) (drop (512 * b) out)) ≡ packed_to list n (b + 1) ++ drop (512 * (b + 1)) d
  unfolding packed_to
  pack_more =
      let w : 512 * (b + 1) ≡ 512 * b + 512 = omega arith in
      let y : length ys ≡ 512 = ap length h ∙ length_filled b (eqb (b + 1) n) (records_of list b) (simp length-take (omega arith)) in
      rw (w, add-one b, ← h) (next_part (packed_to list n b) ys d out (512 * b) (512 * b + 512) e (length_packed_to list n b) (omega arith))

pub pack_done : (list d out : List ℕ) (n b : ℕ) → n ≡ blocks_for list → b ≡ n → out ≡ packed_to list n b ++ drop (512 * b) d → out ≡ packed list ++ drop (512 * n) d
unfolding packed
pack_done list d out n b w e h = h ∙ rw (e, w)

-- ---- and back
module _ (file d : List ℕ) (s : Sound file) (b : ℕ) (p : b < block_count file) where
  -- The used slots of block b, behind those of the blocks before it.
  pub unpack_more : (out ys : List ℕ) (c : ℕ) → c ≡ get_or (block file b) 4 0 → out ≡ unpacked_to file b ++ drop (length (unpacked_to file b)) d → ys ≡ part (block file b) 8 (8 + 16 * c)
      → take (496 * b) out ++ (ys ++ drop (496 * b + 16 * c - 496 * b) (drop (496 * b) out)) ≡ unpacked_to file (b + 1) ++ drop (length (unpacked_to file (b + 1))) d
  unfolding unpacked_to
  unpack_more out ys c ec e h =
      let k : length (unpacked_to file b) ≡ 496 * b = length_unpacked_to file s b p in
      let q : ys ≡ stretch file s b = h ∙ rw ec in
      let y : length ys ≡ 16 * c = rw (q, ec) (length_stretch file s b p) in
      let g : out ≡ unpacked_to file b ++ drop (496 * b) d = rw k at e in
      let m : length (unpacked_to file b ++ stretch file s b) ≡ 496 * b + 16 * c = simp length-append (rw (k, ec) (omega (arith, length_stretch file s b p))) in
      rw (add-one b, m, ← q) (next_part (unpacked_to file b) ys d out (496 * b) (496 * b + 16 * c) g k (omega arith))

pub unpack_done : (file d out : List ℕ) (b : ℕ) → Sound file → b ≡ block_count file → out ≡ unpacked_to file b ++ drop (length (unpacked_to file b)) d
    → out ≡ unpacked file ++ drop (16 * record_count file) d
unfolding unpacked
unpack_done file d out b s e h = let k = length_unpacked file s in h ∙ rw (e, ← k)

-- ---- bytes set to zero one by one, and lists that are the same from their first bytes on
pub clear_more : (out : List ℕ) (i : ℕ) → i < length out → take i out ≡ replicate i 0 → take (i + 1) (set out i 0) ≡ replicate (i + 1) 0
clear_more out i p e = rw (← replicate-append-replicate {A = ℕ} i 1 0, add-one, take-suc-set out i 0 p, e)

pub same_all : (a b : List ℕ) (n : ℕ) → length a ≤ n → length b ≤ n → take n a ≡ take n b → a ≡ b
same_all a b n p q e = sym (take_all n a p) ∙ e ∙ take_all n b q

-- Copying over a part of the same length leaves the copy.
pub copied : (part old : List ℕ) → length old ≤ length part → take (length part) part ++ drop (length part) old ≡ part
copied part old q = rw (take_all (length part) part (omega arith), drop_of_length-le old {i = length part} q) (append-nil part)

-- ---- the slots of a block, copied over as many bytes
module _ (file d : List ℕ) (s : Sound file) (b : ℕ) (p : b < block_count file) where
  short : (k : ℕ) (x : List ℕ) → length (take k x) ≤ k
  short k x = simp length-take (omega arith)

  -- Copying them leaves them.
  pub copied_slots : (out : List ℕ) (c : ℕ) → c ≡ get_or (block file b) 4 0
      → take (length (part (block file b) 8 (8 + 16 * c))) (part (block file b) 8 (8 + 16 * c)) ++ drop (length (part (block file b) 8 (8 + 16 * c))) (take (496 * b + 16 * c - 496 * b) (drop (496 * b) out)) ≡ part (block file b) 8 (8 + 16 * c)
  copied_slots out c ec =
      let l : length (part (block file b) 8 (8 + 16 * c)) ≡ 16 * c = rw ec (length_stretch file s b p) in
      copied (part (block file b) 8 (8 + 16 * c)) (take (496 * b + 16 * c - 496 * b) (drop (496 * b) out)) (rw (l, add-sub_cancel_left (496 * b) (16 * c)) (short (16 * c) (drop (496 * b) out)))

  pub unpacked_within : length (unpacked_to file (b + 1)) ≤ 16 * record_count file
  unfolding unpacked_to
  unpacked_within =
      let k = length_unpacked_to file s b p in
      let j = length_stretch file s b p in
      let i = stretch_within file s b p in
      rw (add-one b) (simp length-append (omega arith))
