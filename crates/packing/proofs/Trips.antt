-- Both round trips, block by block. The idea: block b of a packing is the block of the list's b-th stretch of 31 records, and the used slots of block b are that stretch again.
-- Assumes nothing.
use Prim.Native.Nat.{ℕ, zero, suc, ◌+◌, ◌-◌, ◌*◌, ◌/◌, ◌%◌, ◌≤◌, ◌<◌}
use mathlib.Core.Path.{◌≡◌, refl, ap, sym, ◌∙◌}
use mathlib.Core.List.{List}
use mathlib.Core.Bool.{Bool, true, false, ◌||◌, false≢true}
use native.Mathlib.Omega.{arith}
use native.Mathlib.Nat.{add-suc, add-zero, add-sub_cancel_left}
use lib.ListN.{length, get_or, take, drop, length-append, length-take, length-drop}
use lib.Seq.{take-add, take_all, drop_at, drop-append-le, take-append-le, length-take-le}
use lib.Dec.{eqb, ltb}
use borrow.Author.Tests.{eqb-true, eqb-false, eq-eqb, ne_eqb, ltb-true, ltb-false}
use Rattle.numbers.specs.Numbers.{Bytes}
use Rattle.numbers.proofs.Bytes.{taken, dropped}
use Rattle.blocks.specs.Block.{part}
use Rattle.blocks.specs.File.{block_count, block, record_count}
use Rattle.blocks.specs.Sound.{Right, Sound}
use Rattle.blocks.proofs.Accepted.{in_block}
use Rattle.packing.specs.Packed.{filled, Listed, records_of, blocks_for, packed_to, packed, unpacked_to, unpacked}
use Rattle.packing.proofs.Block.{length_filled, length_used, block_is, Fits, filled_count, filled_used, filled_header, filled_check}

records_few : (list : List ℕ) (b : ℕ) → length (records_of list b) ≤ 496
records_few list b = simp length-take (omega arith)

-- ---- packing
module _ (list : List ℕ) (n : ℕ) where
  pub length_packed_to : (b : ℕ) → length (packed_to list n b) ≡ 512 * b
  unfolding packed_to
  length_packed_to zero = refl
  length_packed_to (suc b) =
      let h = length_packed_to b in
      let k = length_filled b (eqb (b + 1) n) (records_of list b) (records_few list b) in
      simp length-append (omega arith)

  -- Block b, with j blocks behind it.
  packed_at : (b j : ℕ) → take 512 (drop (512 * b) (packed_to list n (suc (b + j)))) ≡ filled b (eqb (b + 1) n) (records_of list b)
  unfolding packed_to
  packed_at b zero =
      let k = length_filled b (eqb (b + 1) n) (records_of list b) (records_few list b) in
      rw (add-zero b, drop_at (packed_to list n b) (filled b (eqb (b + 1) n) (records_of list b)) (512 * b) (length_packed_to b))
      (take_all 512 (filled b (eqb (b + 1) n) (records_of list b)) (omega arith))
  packed_at b (suc j) =
      let p = packed_to list n (b + suc j) in
      let q = filled (b + suc j) (eqb (b + suc j + 1) n) (records_of list (b + suc j)) in
      let h = length_packed_to (b + suc j) in
      let d : 512 * b ≤ length p = omega arith in
      let t : 512 ≤ length (drop (512 * b) p) = simp length-drop (omega arith) in
      let i : take 512 (drop (512 * b) p) ≡ filled b (eqb (b + 1) n) (records_of list b) = rw (add-suc b j) (packed_at b j) in
      rw (drop-append-le (512 * b) p q d, take-append-le 512 (drop (512 * b) p) q t) i

full_of : (last : Bool) (c : ℕ) → (last ≡ false → c ≡ 31) → (last || eqb c 31) ≡ true
full_of true c h = refl
full_of false c h = eq-eqb c 31 (h refl)

module _ (list : List ℕ) (a : Listed (length list)) where
  pub length_packed : length (packed list) ≡ 512 * blocks_for list
  unfolding packed
  length_packed = length_packed_to list (blocks_for list) (blocks_for list)

  whole : length list % 16 ≡ 0
  whole = eqb-true _ _ a.also

  count_packed : block_count (packed list) ≡ blocks_for list
  count_packed = rw length_packed (omega arith)

  module _ (b : ℕ) (p : b < blocks_for list) where
    block_packed : block (packed list) b ≡ filled b (eqb (b + 1) (blocks_for list)) (records_of list b)
    unfolding packed
    block_packed =
        let w : suc (b + (blocks_for list - b - 1)) ≡ blocks_for list = omega arith in
        rw (add-sub_cancel_left (512 * b) 512) (rw w at (packed_at list (blocks_for list) b (blocks_for list - b - 1)))

    fits : Fits b (eqb (b + 1) (blocks_for list)) (records_of list b)
    fits =
        let h : length (records_of list b) ≡ _ = length-take 496 (drop (496 * b) list) in
        let g = length-drop (496 * b) list in
        let v = whole in
        let s = a.least in
        let m = a.most in
        record {
          whole = omega arith;
          count = record {
            least = omega arith;
            most = omega arith;
            also = full_of (eqb (b + 1) (blocks_for list)) (length (records_of list b) / 16) (λ e. let ne = eqb-false (b + 1) (blocks_for list) e in omega arith);
          };
          small = omega arith;
        }

    right_packed : Right (packed list) b
    right_packed =
        record {
          check = rw block_packed (filled_check b (eqb (b + 1) (blocks_for list)) (records_of list b) fits);
          head = rw (block_packed, count_packed) (filled_header b (eqb (b + 1) (blocks_for list)) (records_of list b) fits);
        }

    used_packed : part (block (packed list) b) 8 (8 + 16 * get_or (block (packed list) b) 4 0) ≡ records_of list b
    used_packed =
        rw (block_packed, filled_count b (eqb (b + 1) (blocks_for list)) (records_of list b) fits, add-sub_cancel_left 8 (16 * (length (records_of list b) / 16)))
        (filled_used b (eqb (b + 1) (blocks_for list)) (records_of list b) fits)

  pub sound_packed : Sound (packed list)
  sound_packed =
      let s = a.least in
      let m = a.most in
      record {
        allowed = record { least = rw length_packed (omega arith); most = rw length_packed (omega arith); also = eq-eqb (length (packed list) % 512) 0 (rw length_packed (omega arith)) };
        right = λ b p. right_packed b (rw count_packed at p);
      }

  unpack_packed : (b : ℕ) → b ≤ blocks_for list → unpacked_to (packed list) b ≡ take (496 * b) list
  unfolding unpacked_to
  unpack_packed zero p = refl
  unpack_packed (suc b) p =
      let w : 496 * suc b ≡ 496 * b + 496 = omega arith in
      rw (unpack_packed b (omega arith), used_packed b p, w, take-add (496 * b) 496 list)

  -- Unpacking gives the packed list back.
  pub unpacked_packed : unpacked (packed list) ≡ list
  unfolding unpacked
  unpacked_packed = rw (count_packed, unpack_packed (blocks_for list) (omega arith)) (take_all (496 * blocks_for list) list (omega arith))

-- ---- unpacking
count_full : (last : Bool) (c : ℕ) → (last || eqb c 31) ≡ true → last ≡ false → c ≡ 31
count_full true c h e = absurd (false≢true (sym e))
count_full false c h e = eqb-true c 31 h

module _ (file : List ℕ) (s : Sound file) where
  pub whole_blocks : length file ≡ 512 * block_count file
  whole_blocks = let w : length file % 512 ≡ 0 = eqb-true _ _ s.allowed.also in omega arith

  pub some_blocks : 1 ≤ block_count file
  some_blocks = let a = s.allowed.least in omega arith

  -- How many records block b holds, and their bytes.
  abbrev pub held : ℕ → ℕ
  held b = get_or (block file b) 4 0

  abbrev pub stretch : ℕ → List ℕ
  stretch b = part (block file b) 8 (8 + 16 * held b)

  module _ (b : ℕ) (p : b < block_count file) where
    pub length_block : length (block file b) ≡ 512
    length_block = let w = whole_blocks in rw (add-sub_cancel_left (512 * b) 512) (length-take-le 512 (drop (512 * b) file) (simp length-drop (omega arith)))

    pub held_least : 1 ≤ held b
    held_least = (s.right b p).head.count.least

    pub held_most : held b ≤ 31
    held_most = (s.right b p).head.count.most

    pub held_full : b + 1 < block_count file → held b ≡ 31
    held_full q = count_full _ _ (s.right b p).head.count.also (ne_eqb (b + 1) (block_count file) (λ e. omega arith))

    pub length_stretch : length (stretch b) ≡ 16 * held b
    length_stretch = length_used (block file b) b (eqb (b + 1) (block_count file)) length_block (s.right b p).head

  pub length_unpacked_to : (b : ℕ) → b < block_count file → length (unpacked_to file b) ≡ 496 * b
  unfolding unpacked_to
  length_unpacked_to zero p = refl
  length_unpacked_to (suc b) p =
      let h = length_unpacked_to b (omega arith) in
      let k = length_stretch b (omega arith) in
      let c = held_full b (omega arith) (omega arith) in
      simp length-append (omega arith)

  pub record_count_is : record_count file ≡ 31 * (block_count file - 1) + held (block_count file - 1)
  unfolding record_count
  record_count_is = let e = in_block file (block_count file - 1) 4 (omega arith) in omega arith

  pub length_unpacked : length (unpacked file) ≡ 16 * record_count file
  unfolding unpacked unpacked_to
  length_unpacked = rw record_count_is (go (block_count file) refl)
    where
      go : (n : ℕ) → block_count file ≡ n → length (unpacked_to file n) ≡ 16 * (31 * (n - 1) + held (n - 1))
      go zero e = let o = some_blocks in absurd (omega arith)
      go (suc b) e =
          let h = length_unpacked_to b (omega arith) in
          let k = length_stretch b (omega arith) in
          let w : suc b - 1 ≡ b = omega arith in
          rw w (simp length-append (omega arith))

  -- What stands in block b ends within the list.
  pub stretch_within : (b : ℕ) → b < block_count file → 496 * b + 16 * held b ≤ 16 * record_count file
  stretch_within b p = rw record_count_is (go (ltb (b + 1) (block_count file)) refl)
    where
      go : (t : Bool) → ltb (b + 1) (block_count file) ≡ t → 496 * b + 16 * held b ≤ 16 * (31 * (block_count file - 1) + held (block_count file - 1))
      go true e =
          let q = ltb-true (b + 1) (block_count file) e in
          let c = held_full b p q in
          omega arith
      go false e =
          let q = ltb-false (b + 1) (block_count file) e in
          let w : block_count file - 1 ≡ b = omega arith in
          rw w (omega arith)

  last_held : (1 ≤ held (block_count file - 1)) × (held (block_count file - 1) ≤ 31)
  last_held = let o = some_blocks in (held_least (block_count file - 1) (omega arith), held_most (block_count file - 1) (omega arith))

  pub listed_unpacked : Listed (length (unpacked file))
  listed_unpacked =
      let h = length_unpacked ∙ ap (λ (n : ℕ). 16 * n) record_count_is in
      let c = last_held in
      let o = some_blocks in
      let m = s.allowed.most in
      record { least = omega arith; most = omega arith; also = eq-eqb (length (unpacked file) % 16) 0 (omega arith) }

  pub blocks_unpacked : blocks_for (unpacked file) ≡ block_count file
  blocks_unpacked =
      let h = length_unpacked ∙ ap (λ (n : ℕ). 16 * n) record_count_is in
      let c = last_held in
      let o = some_blocks in
      omega arith

  unpacked_at : (b j : ℕ) → b + j < block_count file → take 496 (drop (496 * b) (unpacked_to file (suc (b + j)))) ≡ stretch b
  unfolding unpacked_to
  unpacked_at b zero p =
      let q : b < block_count file = omega arith in
      let k = length_stretch b q in
      let c = held_most b q in
      rw (add-zero b, drop_at (unpacked_to file b) (stretch b) (496 * b) (length_unpacked_to b q)) (take_all 496 (stretch b) (omega arith))
  unpacked_at b (suc j) p =
      let u = unpacked_to file (b + suc j) in
      let q = stretch (b + suc j) in
      let h = length_unpacked_to (b + suc j) p in
      let d : 496 * b ≤ length u = omega arith in
      let t : 496 ≤ length (drop (496 * b) u) = simp length-drop (omega arith) in
      let i : take 496 (drop (496 * b) u) ≡ stretch b = rw (add-suc b j) (unpacked_at b j (omega arith)) in
      rw (drop-append-le (496 * b) u q d, take-append-le 496 (drop (496 * b) u) q t) i

  pub records_unpacked : (b : ℕ) → b < block_count file → records_of (unpacked file) b ≡ stretch b
  unfolding unpacked
  records_unpacked b p =
      let w : suc (b + (block_count file - b - 1)) ≡ block_count file = omega arith in
      rw w at (unpacked_at b (block_count file - b - 1) (omega arith))

  module _ (k : Bytes file) where
    block_small : (b : ℕ) → Bytes (block file b)
    block_small b = taken (512 * b + 512 - 512 * b) (drop (512 * b) file) (dropped (512 * b) file k)

    pack_unpacked : (b : ℕ) → b ≤ block_count file → packed_to (unpacked file) (block_count file) b ≡ take (512 * b) file
    unfolding packed_to
    pack_unpacked zero p = refl
    pack_unpacked (suc b) p =
        let w : 512 * suc b ≡ 512 * b + 512 = omega arith in
        let r = s.right b p in
        let e = block_is (block file b) b (eqb (b + 1) (block_count file)) (length_block b p) r.head (block_small b) r.check in
        let v : take 512 (drop (512 * b) file) ≡ block file b = rw (add-sub_cancel_left (512 * b) 512) in
        let f : take 512 (drop (512 * b) file) ≡ filled b (eqb (b + 1) (block_count file)) (stretch b) = v ∙ e in
        rw (pack_unpacked b (omega arith), records_unpacked b p, w, take-add (512 * b) 512 file, f)

    -- Packing what a sound file unpacks to gives the file back.
    pub packed_unpacked : packed (unpacked file) ≡ file
    unfolding packed
    packed_unpacked =
        let w = whole_blocks in
        rw (blocks_unpacked, pack_unpacked (block_count file) (omega arith)) (take_all (512 * block_count file) file (omega arith))
