-- One block, both ways: a block that is right is the block of its own records, and the block of allowed records is right.
-- Assumes nothing.
use Prim.Native.Nat.{ℕ, ◌+◌, ◌-◌, ◌*◌, ◌/◌, ◌^◌, ◌≤◌, ◌<◌}
use mathlib.Core.Path.{◌≡◌, refl, ap, sym, ◌∙◌}
use mathlib.Core.List.{List, [], ◌∷◌, ◌++◌, append_assoc}
use mathlib.Core.Bool.{Bool, true, ◌||◌}
use native.Mathlib.Omega.{arith}
use native.Mathlib.Nat.{mod-lt}
use lib.ListN.{length, get_or, take, drop, replicate, length-append, length-drop, length-replicate}
use lib.Seq.{take-add, take_all, drop-drop, length-take-le, take_at, drop_at}
use lib.Dec.{eqb}
use borrow.Author.Tests.{eqb-true, eq-eqb}
use Rattle.numbers.specs.Numbers.{number, bytes, Bytes}
use Rattle.numbers.specs.Tests.{Between}
use Rattle.numbers.proofs.Zeros.{zeros_are, zeros_pass}
use Rattle.numbers.proofs.Bytes.{four_list, bytes_number, number_bytes, length_bytes}
use Rattle.fnv.specs.Fnv.{hash, hash_from, step}
use Rattle.blocks.specs.Block.{part, mark, check_right}
use Rattle.blocks.specs.Sound.{Header}
use Rattle.packing.specs.Packed.{heading, slots, front, filled}

-- ---- lengths
length_heading : (b : ℕ) (last : Bool) (n : ℕ) → length (heading b last n) ≡ 8
unfolding heading
length_heading b last n = refl

module _ (b : ℕ) (last : Bool) (records : List ℕ) (few : length records ≤ 496) where
  length_slots : length (slots records) ≡ 500
  unfolding slots
  length_slots = simp (length-append, length-replicate) (omega arith)

  pub length_front : length (front b last records) ≡ 508
  unfolding front
  length_front = simp (length-append, length_heading) (rw length_slots)

  pub length_filled : length (filled b last records) ≡ 512
  unfolding filled
  length_filled = simp (length-append, length_bytes) (rw length_front)

-- ---- a block that is right
module _ (block : List ℕ) (n : ℕ) (last : Bool) (size : length block ≡ 512) (h : Header block n last) where
  abbrev pub used : List ℕ
  used = part block 8 (8 + 16 * get_or block 4 0)

  used_is : used ≡ take (16 * get_or block 4 0) (drop 8 block)
  used_is = let w : 8 + 16 * get_or block 4 0 - 8 ≡ 16 * get_or block 4 0 = omega arith in rw w

  pub length_used : length used ≡ 16 * get_or block 4 0
  length_used = let m = h.count.most in rw used_is (length-take-le _ _ (simp length-drop (omega arith)))

  rest_is : take (500 - 16 * get_or block 4 0) (drop (8 + 16 * get_or block 4 0) block) ≡ replicate (500 - 16 * get_or block 4 0) 0
  rest_is =
      let c = get_or block 4 0 in
      let m : c ≤ 31 = h.count.most in
      let w : 508 - (8 + 16 * c) ≡ 500 - 16 * c = omega arith in
      let l : length (take (500 - 16 * c) (drop (8 + 16 * c) block)) ≡ 500 - 16 * c = length-take-le _ _ (simp length-drop (omega arith)) in
      zeros_are _ (rw w at h.rest) ∙ ap (λ (k : ℕ). replicate k 0) l

  slots_are : take 500 (drop 8 block) ≡ slots used
  unfolding slots
  slots_are =
      let c = get_or block 4 0 in
      let m : c ≤ 31 = h.count.most in
      let w : 500 ≡ 16 * c + (500 - 16 * c) = omega arith in
      rw (length_used, used_is, ← rest_is, ← drop-drop (16 * c) 8 block, ← take-add (16 * c) (500 - 16 * c) (drop 8 block), ← w)

  module _ (small : Bytes block) where
    heading_is : take 8 block ≡ heading n last (get_or block 4 0)
    unfolding heading
    heading_is =
        let f : take 4 block ≡ bytes 4 n = sym (bytes_number 4 block 0 small (omega arith)) ∙ ap (bytes 4) h.numbered in
        let g : take 4 (drop 4 block) ≡ get_or block 4 0 ∷ mark last ∷ 0 ∷ 0 ∷ [] = four_list block 4 (omega arith) ∙ rw (h.marked, h.gap, h.gap_2) in
        take-add 4 4 block ∙ ap (λ (x : List ℕ). x ++ take 4 (drop 4 block)) f ∙ ap (λ (x : List ℕ). bytes 4 n ++ x) g

    front_is : take 508 block ≡ front n last used
    unfolding front
    front_is =
        let w : 16 * get_or block 4 0 / 16 ≡ get_or block 4 0 = omega arith in
        rw (length_used, w, ← slots_are, ← heading_is) (take-add 8 500 block)

    pub block_is : check_right block ≡ true → block ≡ filled n last used
    unfolding filled
    block_is c =
        let e : number 4 block 508 ≡ hash (take 508 block) = eqb-true _ _ c in
        let f : take 4 (drop 508 block) ≡ bytes 4 (hash (take 508 block)) = sym (bytes_number 4 block 508 small (omega arith)) ∙ ap (bytes 4) e in
        rw (← front_is, ← f) (sym (take_all 512 block (omega arith)) ∙ take-add 508 4 block)

-- ---- the block of allowed records
hash_small : (h : ℕ) (s : List ℕ) → h < 256 ^ 4 → hash_from h s < 256 ^ 4
hash_small h [] p = p
hash_small h (b ∷ s) p = hash_small (step h b) s (mod-lt _ (omega arith))

-- Records that may stand in block n.
pub record Fits (n : ℕ) (last : Bool) (records : List ℕ) : Type 0 where
  pub whole : length records ≡ 16 * (length records / 16)
  pub count : Between 1 31 (length records / 16) (last || eqb (length records / 16) 31)
  pub small : n < 256 ^ 4

module _ (n : ℕ) (last : Bool) (records : List ℕ) (k : Fits n last records) where
  few : length records ≤ 496
  few = omega arith

  pub filled_count : get_or (filled n last records) 4 0 ≡ length records / 16
  unfolding filled front heading
  filled_count = refl

  slots_on : drop 8 (filled n last records) ≡ records ++ (replicate (500 - length records) 0 ++ bytes 4 (hash (front n last records)))
  unfolding filled front heading slots
  slots_on = append_assoc records (replicate (500 - length records) 0) (bytes 4 (hash (front n last records)))

  pub filled_used : take (16 * (length records / 16)) (drop 8 (filled n last records)) ≡ records
  filled_used = rw slots_on (take_at records _ (16 * (length records / 16)) k.whole)

  rest_on : part (filled n last records) (8 + 16 * (length records / 16)) 508 ≡ replicate (500 - length records) 0
  rest_on =
      let c = length records / 16 in
      let w : 508 - (8 + 16 * c) ≡ 500 - length records = omega arith in
      rw (w, ← drop-drop (16 * c) 8 (filled n last records), slots_on, drop_at records _ (16 * c) k.whole)
      (take_at (replicate (500 - length records) 0) _ (500 - length records) (length-replicate (500 - length records) 0))

  pub filled_header : Header (filled n last records) n last
  unfolding filled front heading
  filled_header =
      record {
        count = k.count;
        numbered = number_bytes 4 (filled n last records) 0 n (rw (length_filled n last records few) (omega arith)) k.small refl;
        marked = refl;
        gap = refl;
        gap_2 = refl;
        rest = rw rest_on (zeros_pass (500 - length records));
      }

  pub filled_check : check_right (filled n last records) ≡ true
  unfolding filled
  filled_check =
      let l = length_front n last records few in
      let f : take 508 (filled n last records) ≡ front n last records = take_at (front n last records) _ 508 l in
      let d : drop 508 (filled n last records) ≡ bytes 4 (hash (front n last records)) = drop_at (front n last records) _ 508 l in
      let t : take 4 (drop 508 (filled n last records)) ≡ bytes 4 (hash (front n last records)) = rw d (take_all 4 _ (omega (arith, length_bytes 4 (hash (front n last records))))) in
      let m = number_bytes 4 (filled n last records) 508 (hash (front n last records)) (rw (length_filled n last records few) (omega arith)) (hash_small 2166136261 (front n last records) (omega arith)) t in
      eq-eqb (number 4 (filled n last records) 508) (hash (take 508 (filled n last records))) (rw f m)
