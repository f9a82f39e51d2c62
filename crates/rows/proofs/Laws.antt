-- Rows that are written one behind the other.
-- Assumes nothing.
use Prim.Native.Nat.{ℕ, zero, suc, ◌+◌, ◌-◌, ◌*◌, ◌/◌, ◌%◌, ◌≤◌, ◌<◌, max}
use mathlib.Core.Path.{◌≡◌, refl, sym, ap, ◌∙◌}
use mathlib.Core.List.{List, [], ◌∷◌, ◌++◌, append-nil}
use native.Mathlib.Omega.{arith}
use native.Mathlib.Nat.{le-max_left, le-max_right, max-le}
use native.Mathlib.Decide.{ℕ_discrete}
use native.Mathlib.Numerals.{add-one}
use lib.ListN.{length, get_or, take, drop, length-take, length-drop, drop_of_length-le}
use lib.Seq.{drop_at, take-suc, take_all}
use Rattle.numbers.specs.Numbers.{bytes}
use Rattle.packing.proofs.Writes.{next_part, as_long}
use Rattle.look.specs.Look.{look}
use Rattle.timetable.specs.Lists.{list_below}
use Rattle.timetable.specs.Rows.{Row}
use Rattle.timetable.specs.Bytes.{number_bytes, row_bytes, rows_bytes}
use Rattle.timetable.proofs.Laws.{length_bytes, bytes_append}
use Rattle.timetable.proofs.Lists.{length_list}
use Rattle.rows.specs.Rows.{latest}

-- A part of n bytes from place a on.
pub part_long : (a n : ℕ) (l : List ℕ) → a + n ≤ length l → length (take (a + n - a) (drop a l)) ≡ n
part_long a n l h = simp (length-take, length-drop) (omega arith)

pub bytes_one : (r : Row) → rows_bytes (r ∷ []) ≡ row_bytes r
unfolding rows_bytes
bytes_one r = append-nil (row_bytes r)

-- Further rows behind those that are done, from place a to place e.
pub rows_more : (l m : List Row) (d out ys : List ℕ) (a e : ℕ) → 16 * length l ≡ a → a + 16 * length m ≡ e → out ≡ rows_bytes l ++ drop a d → ys ≡ rows_bytes m
    → take a out ++ (ys ++ drop (e - a) (drop a out)) ≡ rows_bytes (l ++ m) ++ drop e d
rows_more l m d out ys a e hl he h y =
    let k = length_bytes l in
    let n = length_bytes m in
    rw (bytes_append l m, y) (next_part (rows_bytes l) (rows_bytes m) d out a e h (omega arith) (omega arith))

-- One row behind those that are done.
pub row_more : (l : List Row) (r : Row) (d out ys : List ℕ) (a : ℕ) → 16 * length l ≡ a → out ≡ rows_bytes l ++ drop a d → ys ≡ row_bytes r
    → take a out ++ (ys ++ drop (a + 16 - a) (drop a out)) ≡ rows_bytes (l ++ (r ∷ [])) ++ drop (a + 16) d
row_more l r d out ys a hl h y = rows_more l (r ∷ []) d out ys a (a + 16) hl refl h (y ∙ sym (bytes_one r))

-- Nothing behind the last row.
pub rows_end : (l : List Row) (d out : List ℕ) (a : ℕ) → length d ≤ a → out ≡ rows_bytes l ++ drop a d → out ≡ rows_bytes l
rows_end l d out a h e = e ∙ rw (drop_of_length-le d {i = a} h) (append-nil (rows_bytes l))

pub rows_long : (l : List Row) (d out : List ℕ) (a : ℕ) → 16 * length l ≡ a → a ≤ length d → out ≡ rows_bytes l ++ drop a d → length out ≡ length d
rows_long l d out a h q e = as_long (rows_bytes l) out d a (length_bytes l ∙ h) q e

-- What stands behind the rows may be said of the list itself.
pub rows_kept : (l : List Row) (d out : List ℕ) (a : ℕ) → 16 * length l ≡ a → out ≡ rows_bytes l ++ drop a d → out ≡ rows_bytes l ++ drop a out
rows_kept l d out a h e = e ∙ ap (λ (x : List ℕ). rows_bytes l ++ x) (sym (ap (drop a) e ∙ drop_at (rows_bytes l) (drop a d) a (length_bytes l ∙ h)))

pub latest_more : (file : List ℕ) (i p m e : ℕ) → m ≡ latest file i p → e ≡ (look file (i + p)).end → max m e ≡ latest file i (p + 1)
unfolding latest
latest_more file i p m e h k = rw (add-one p, h, k)

-- Each end is at most the latest, and the latest is the least such number.
module _ (file : List ℕ) (i : ℕ) where
  pub latest_above : (n p : ℕ) → p < n → (look file (i + p)).end ≤ latest file i n
  unfolding latest
  latest_above zero p l = absurd (omega arith)
  latest_above (suc n) p l = go (ℕ_discrete p n) (latest_above n p)
    where
      go : Dec (p ≡ n) → (p < n → (look file (i + p)).end ≤ latest file i n) → (look file (i + p)).end ≤ max (latest file i n) (look file (i + n)).end
      go (yes e) h = rw e (le-max_right (latest file i n) (look file (i + n)).end)
      go (no d) h =
          let k = h (omega arith) in
          let m = le-max_left (latest file i n) (look file (i + n)).end in
          omega arith

  pub latest_least : (n x : ℕ) → ((p : ℕ) → p < n → (look file (i + p)).end ≤ x) → latest file i n ≤ x
  unfolding latest
  latest_least zero x h = omega arith
  latest_least (suc n) x h = max-le (latest_least n x (λ p l. h p (omega arith))) (h n (omega arith))

-- One number more of a row, in two bytes.
number_one : (x : ℕ) → x < 65536 → bytes 2 x ≡ number_bytes (x ∷ [])
unfolding number_bytes
number_one x h = let e : x / 256 % 256 ≡ x / 256 = omega arith in rw e

numbers_join : (xs ys : List ℕ) → number_bytes (xs ++ ys) ≡ number_bytes xs ++ number_bytes ys
unfolding number_bytes
numbers_join [] ys = refl
numbers_join (x ∷ xs) ys = rw (numbers_join xs ys)

numbers_long : (xs : List ℕ) → length (number_bytes xs) ≡ 2 * length xs
unfolding number_bytes
numbers_long [] = refl
numbers_long (x ∷ xs) = let h = numbers_long xs in omega arith

pub numbers_more : (xs d out ys : List ℕ) (i x : ℕ) → i < length xs → x ≡ get_or xs i 0 → x < 65536 → out ≡ number_bytes (take i xs) ++ drop (2 * i) d → ys ≡ bytes 2 x
    → take (2 * i) out ++ (ys ++ drop (2 * i + 2 - 2 * i) (drop (2 * i) out)) ≡ number_bytes (take (i + 1) xs) ++ drop (2 * (i + 1)) d
numbers_more xs d out ys i x t ex small h y =
    let w : 2 * (i + 1) ≡ 2 * i + 2 = omega arith in
    let l : length (number_bytes (take i xs)) ≡ 2 * i = numbers_long (take i xs) ∙ simp length-take (omega arith) in
    let n : length ys ≡ 2 = ap length y in
    rw (w, add-one i, take-suc xs i 0 t, numbers_join, ← ex, ← number_one x small, ← y) (next_part (number_bytes (take i xs)) ys d out (2 * i) (2 * i + 2) h l (omega arith))

pub numbers_all : (xs d out : List ℕ) → length d ≡ 2 * length xs → out ≡ number_bytes (take (length xs) xs) ++ drop (2 * length xs) d → out ≡ number_bytes xs
numbers_all xs d out e h = h ∙ rw (take_all (length xs) xs (omega arith), drop_of_length-le d {i = 2 * length xs} (omega arith)) (append-nil (number_bytes xs))

-- The next row of those that f makes.
pub listed_more : (f : ℕ → Row) (n a : ℕ) (d out ys : List ℕ) → a ≡ 16 * n → out ≡ rows_bytes (list_below n f) ++ drop a d → ys ≡ row_bytes (f n)
    → take a out ++ (ys ++ drop (a + 16 - a) (drop a out)) ≡ rows_bytes (list_below (n + 1) f) ++ drop (16 * (n + 1)) d
listed_more f n a d out ys ea h y =
    let k = length_list n f in
    let w : 16 * (n + 1) ≡ a + 16 = omega arith in
    rw (w, add-one n) (row_more (list_below n f) (f n) d out ys a (omega arith) h y)
