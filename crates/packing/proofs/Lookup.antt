-- Record i of a sound file is record i of its list.
-- Assumes nothing.
use Prim.Native.Nat.{ℕ, ◌+◌, ◌-◌, ◌*◌, ◌/◌, ◌%◌, ◌≤◌, ◌<◌}
use mathlib.Core.Path.{◌≡◌, refl, ap, sym, ◌∙◌}
use mathlib.Core.List.{List}
use mathlib.Core.Bool.{Bool, true, false}
use native.Mathlib.Omega.{arith}
use lib.ListN.{length, take, drop, length-drop, drop_of_length-le}
use lib.Seq.{take-add, take-take, take-nil, drop-drop, drop_at, length-take-le}
use lib.Dec.{ltb}
use borrow.Author.Tests.{ltb-true, ltb-false}
use Rattle.answers.specs.Answer.{then}
use Rattle.blocks.specs.File.{block_count, block, record_count, record_place, sound, present, record_answer, part_bytes}
use Rattle.blocks.specs.Sound.{Sound}
use Rattle.blocks.proofs.Accepted.{sound_back}
use Rattle.packing.specs.Packed.{unpacked}
use Rattle.packing.proofs.Trips.{whole_blocks, some_blocks, held, stretch, length_block, held_most, held_full, record_count_is, length_unpacked, stretch_within, records_unpacked}

-- A part of a part.
window : (p k m : ℕ) (x : List ℕ) → p ≤ length x → p + k ≤ m → take k (drop p (take m x)) ≡ take k (drop p x)
window p k m x h q =
    let w : m ≡ p + (m - p) = omega arith in
    let d : drop p (take (p + (m - p)) x) ≡ take (m - p) (drop p x) = rw (take-add p (m - p) x) (drop_at (take p x) (take (m - p) (drop p x)) p (length-take-le p x h)) in
    rw (w, d) (take-take k (m - p) (drop p x) (omega arith))

module _ (file : List ℕ) (s : Sound file) where
  -- Slot i % 31 of block i / 31 is used.
  slot_used : (i : ℕ) → i < record_count file → i / 31 < block_count file → (t : Bool) → ltb (i / 31 + 1) (block_count file) ≡ t → i % 31 < held file s (i / 31)
  slot_used i p q true e =
      let c = held_full file s (i / 31) q (ltb-true _ _ e) in
      omega arith
  slot_used i p q false e =
      let g = ltb-false (i / 31 + 1) (block_count file) e in
      let w : block_count file - 1 ≡ i / 31 = omega arith in
      let r = record_count_is file s in
      let u = rw w at r in
      omega arith

  module _ (b j : ℕ) (p : b < block_count file) (q : j < held file s b) where
    -- Slot j of block b, in the file and in the list.
    in_file : take 16 (drop (16 * j) (stretch file s b)) ≡ take 16 (drop (512 * b + 8 + 16 * j) file)
    in_file =
        let m = held_most file s b p in
        let a = whole_blocks file s in
        let l = length_block file s b p in
        let c : 8 + 16 * held file s b - 8 ≡ 16 * held file s b = omega arith in
        let w : 512 * b + 8 + 16 * j ≡ 512 * b + (8 + 16 * j) = omega arith in
        let x : 16 * j ≤ length (drop 8 (block file b)) = simp length-drop (omega arith) in
        let y : 8 + 16 * j ≤ length (drop (512 * b) file) = simp length-drop (omega arith) in
        let v : 512 * b + 512 - 512 * b ≡ 512 = omega arith in
        ap (λ (n : ℕ). take 16 (drop (16 * j) (take n (drop 8 (block file b))))) c
        ∙ window (16 * j) 16 (16 * held file s b) (drop 8 (block file b)) x (omega arith)
        ∙ ap (take 16) (drop-drop (16 * j) 8 (block file b))
        ∙ ap (λ (n : ℕ). take 16 (drop (8 + 16 * j) (take n (drop (512 * b) file)))) v
        ∙ window (8 + 16 * j) 16 512 (drop (512 * b) file) y (omega arith)
        ∙ ap (take 16) (drop-drop (8 + 16 * j) (512 * b) file)
        ∙ ap (λ (n : ℕ). take 16 (drop n file)) (sym w)

    in_list : take 16 (drop (16 * j) (stretch file s b)) ≡ take 16 (drop (496 * b + 16 * j) (unpacked file))
    in_list =
        let m = held_most file s b p in
        let l = length_unpacked file s in
        let e = stretch_within file s b p in
        let x : 16 * j ≤ length (drop (496 * b) (unpacked file)) = simp length-drop (omega arith) in
        ap (λ (r : List ℕ). take 16 (drop (16 * j) r)) (sym (records_unpacked file s b p))
        ∙ window (16 * j) 16 496 (drop (496 * b) (unpacked file)) x (omega arith)
        ∙ ap (take 16) (drop-drop (16 * j) (496 * b) (unpacked file))

  record_in : (i : ℕ) → i < record_count file → take 16 (drop (record_place i) file) ≡ take 16 (drop (16 * i) (unpacked file))
  record_in i p =
      let r = record_count_is file s in
      let o = some_blocks file s in
      let l = held_most file s (block_count file - 1) (omega arith) in
      let q : i / 31 < block_count file = omega arith in
      let u = slot_used i p q (ltb (i / 31 + 1) (block_count file)) refl in
      let w : 496 * (i / 31) + 16 * (i % 31) ≡ 16 * i = omega arith in
      sym (in_file (i / 31) (i % 31) q u) ∙ in_list (i / 31) (i % 31) q u ∙ ap (λ (n : ℕ). take 16 (drop n (unpacked file))) w

  pub record_unpacked : (i : ℕ) → part_bytes file i (record_answer file i) ≡ take 16 (drop (16 * i) (unpacked file))
  unfolding record_answer
  record_unpacked i = go (ltb i (record_count file)) refl
    where
      go : (t : Bool) → ltb i (record_count file) ≡ t → part_bytes file i (then (sound file) (present i)) ≡ take 16 (drop (16 * i) (unpacked file))
      go true e = rw (sound_back file s, e) (record_in i (ltb-true i (record_count file) e))
      go false e =
          let h = length_unpacked file s in
          let g = ltb-false i (record_count file) e in
          rw (sound_back file s, e, drop_of_length-le (unpacked file) {i = 16 * i} (omega arith), take-nil)
