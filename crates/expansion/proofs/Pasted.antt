-- Bytes pasted among others, and the bytes of rows.
-- Assumes nothing.
use Prim.Native.Nat.{ℕ, ◌+◌, ◌-◌, ◌*◌, ◌/◌, ◌%◌, ◌≤◌}
use mathlib.Core.Path.{◌≡◌, refl, ap, sym, ◌∙◌}
use mathlib.Core.List.{List, [], ◌∷◌, ◌++◌, append_assoc, append-nil}
use native.Mathlib.Omega.{arith}
use native.Mathlib.Nat.{add-zero, add_assoc}
use lib.ListN.{length, take, drop, length-append, length-drop, take-append-drop}
use lib.Seq.{length-take-le, take_at, drop_at, drop-drop}
use borrow.Rule.Slice.PartMut.{put_mid}
use Rattle.numbers.specs.Numbers.{bytes}
use Rattle.timeline.specs.Flat.{Row}
use Rattle.expansion.specs.Bytes.{row_bytes, rows_bytes, pasted}
use lib.Seq.{sets-eq}
use lib.ListN.{set}
use Prim.Native.Nat.{suc}

pub pasted_none : (old : List ℕ) (at : ℕ) → pasted old at [] ≡ old
unfolding pasted
pasted_none old at = rw (add-zero at, append-nil (take at old)) (take-append-drop at old)

module _ (old : List ℕ) (at : ℕ) (a : List ℕ) (room : at + length a ≤ length old) where
  head_length : length (take at old ++ a) ≡ at + length a
  head_length = length-append (take at old) a ∙ ap (λ (k : ℕ). k + length a) (length-take-le at old (omega arith))

  pub pasted_length : length (pasted old at a) ≡ length old
  unfolding pasted
  pasted_length = let e = head_length in length-append (take at old ++ a) (drop (at + length a) old) ∙ simp length-drop (omega arith)

  -- Two pastes, one behind the other, are one.
  pub pasted_more : (b : List ℕ) → pasted (pasted old at a) (at + length a) b ≡ pasted old at (a ++ b)
  unfolding pasted
  pasted_more b =
      let tail : List ℕ = drop (at + length a) old in
      rw (
        take_at (take at old ++ a) tail (at + length a) head_length,
        ← drop-drop (length b) (at + length a) (take at old ++ a ++ tail),
        drop_at (take at old ++ a) tail (at + length a) head_length,
        drop-drop (length b) (at + length a) old,
        length-append a b,
        add_assoc,
        append_assoc (take at old) a b,
      )

-- "Rows are 8 bytes."
pub length_rows_bytes : (rows : List Row) → length (rows_bytes rows) ≡ 8 * length rows
unfolding rows_bytes row_bytes
length_rows_bytes [] = refl
length_rows_bytes (r ∷ rows) = let e = length_rows_bytes rows in omega arith

pub rows_bytes_join : (a b : List Row) → rows_bytes (a ++ b) ≡ rows_bytes a ++ rows_bytes b
unfolding rows_bytes
rows_bytes_join [] b = refl
rows_bytes_join (r ∷ a) b = rw (rows_bytes_join a b) (sym (append_assoc (row_bytes r) (rows_bytes a) (rows_bytes b)))

-- Numbers written over a part of the bytes are pasted there.
part_pasted : (old : List ℕ) (at k : ℕ) (part new : List ℕ) → part ≡ new → length new ≡ k → put_mid at k old part ≡ pasted old at new
unfolding pasted
part_pasted old at k part new e l =
    rw (e, ← l) (sym (append_assoc (take at old) new (drop (length new) (drop at old))) ∙ ap (λ (r : List ℕ). take at old ++ new ++ r) (drop-drop (length new) at old))

-- Cycle, unit and component, one behind the other, paste a row.
pub row_put : (old : List ℕ) (at t u c : ℕ) → at + 8 ≤ length old → {a b d : List ℕ} → a ≡ bytes 4 t → b ≡ bytes 2 (u % 65536) → d ≡ bytes 2 (c % 65536)
    → put_mid (at + 6) (at + 8 - (at + 6)) (put_mid (at + 4) (at + 6 - (at + 4)) (put_mid at (at + 4 - at) old a) b) d ≡ pasted old at (rows_bytes (record { cycle = t; unit = u; component = c } ∷ []))
unfolding rows_bytes row_bytes
row_put old at t u c h {a} {b} {d} ea eb ed =
    let k₁ : at + 4 - at ≡ 4 = omega arith in
    let k₂ : at + 6 - (at + 4) ≡ 2 = omega arith in
    let k₃ : at + 8 - (at + 6) ≡ 2 = omega arith in
    let u₀ : u % 65536 % 256 ≡ u % 256 = omega arith in
    let u₁ : u % 65536 / 256 % 256 ≡ u / 256 % 256 = omega arith in
    let c₀ : c % 65536 % 256 ≡ c % 256 = omega arith in
    let c₁ : c % 65536 / 256 % 256 ≡ c / 256 % 256 = omega arith in
    rw (
      k₁,
      k₂,
      k₃,
      part_pasted old at 4 a (bytes 4 t) ea refl,
      part_pasted (pasted old at (bytes 4 t)) (at + 4) 2 b (bytes 2 (u % 65536)) eb refl,
      pasted_more old at (bytes 4 t) (omega arith) (bytes 2 (u % 65536)),
      part_pasted (pasted old at (bytes 4 t ++ bytes 2 (u % 65536))) (at + 6) 2 d (bytes 2 (c % 65536)) ed refl,
    )
    (pasted_more old at (bytes 4 t ++ bytes 2 (u % 65536)) (omega arith) (bytes 2 (c % 65536)) ∙ rw (u₀, u₁, c₀, c₁))

-- Eight stores, one behind the other, paste a row.
pub row_stored : (old : List ℕ) (at t u c : ℕ) → at + 8 ≤ length old
    → set (set (set (set (set (set (set (set old at (t % 256)) (at + 1) (t / 256 % 256)) (at + 2) (t / 256 / 256 % 256)) (at + 3) (t / 256 / 256 / 256 % 256)) (at + 4) (u % 256)) (at + 5) (u / 256 % 256)) (at + 6) (c % 256)) (at + 7) (c / 256 % 256)
    ≡ pasted old at (rows_bytes (record { cycle = t; unit = u; component = c } ∷ []))
unfolding pasted rows_bytes row_bytes
row_stored old at t u c h =
    let e₁ : at + 1 ≡ suc at = omega arith in
    let e₂ : at + 2 ≡ suc (suc at) = omega arith in
    let e₃ : at + 3 ≡ suc (suc (suc at)) = omega arith in
    let e₄ : at + 4 ≡ suc (suc (suc (suc at))) = omega arith in
    let e₅ : at + 5 ≡ suc (suc (suc (suc (suc at)))) = omega arith in
    let e₆ : at + 6 ≡ suc (suc (suc (suc (suc (suc at))))) = omega arith in
    let e₇ : at + 7 ≡ suc (suc (suc (suc (suc (suc (suc at)))))) = omega arith in
    rw (e₁, e₂, e₃, e₄, e₅, e₆, e₇) (sets-eq (t % 256 ∷ t / 256 % 256 ∷ t / 256 / 256 % 256 ∷ t / 256 / 256 / 256 % 256 ∷ u % 256 ∷ u / 256 % 256 ∷ c % 256 ∷ c / 256 % 256 ∷ []) old at h)
