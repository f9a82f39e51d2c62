-- Rows as bytes: sixteen each, bytes each, joined as the rows are, and read back.
-- Assumes nothing.
use Rattle.std.specs.Prelude.{ℕ, ◌+◌, ◌*◌, ◌/◌, ◌%◌, ◌<◌, ◌≡◌, refl, List, [], ◌∷◌, ◌++◌, length, drop}
use mathlib.Core.List.Memᴰ
use Rattle.std.proofs.Common.{append_assoc, ⊎_elim, length-append, arith, mod-lt}
use Rattle.std.proofs.Math.Nat.{div-add-mod}
use Rattle.timetable.specs.Lists.{Has}
use Rattle.timetable.specs.Rows.{Row, register, go, guard, out, numbers}
use Rattle.timetable.specs.Bytes.{number_bytes, row_bytes, rows_bytes, Fits, number_at, row_of_kind, read_rows}

two_bytes : (v : ℕ) → v % 256 + 256 * (v / 256) ≡ v
two_bytes v = let e = div-add-mod v 256 in omega arith

-- The first sixteen bytes say the first row, whatever bytes follow.
row_back : (r : Row) (more : List ℕ) → row_of_kind (number_at (row_bytes r ++ more) 0) (number_at (row_bytes r ++ more)) ≡ r ∷ []
unfolding row_bytes number_bytes numbers number_at
row_back (register d n) more = simp two_bytes
row_back (go j n k) more = simp two_bytes
row_back (guard j i f l r) more = simp two_bytes
row_back (out o r) more = simp two_bytes

rest_back : (r : Row) (more : List ℕ) → drop 16 (row_bytes r ++ more) ≡ more
unfolding row_bytes number_bytes numbers
rest_back (register d n) more = refl
rest_back (go j n k) more = refl
rest_back (guard j i f l r) more = refl
rest_back (out o r) more = refl

pub rows_back : (l : List Row) (more : List ℕ) → read_rows (length l) (rows_bytes l ++ more) ≡ l
unfolding read_rows rows_bytes
rows_back [] more = refl
rows_back (r ∷ l) more =
    let e = append_assoc (row_bytes r) (rows_bytes l) more in
    rw (e, row_back r (rows_bytes l ++ more), rest_back r (rows_bytes l ++ more), rows_back l more)

pub length_row : (r : Row) → length (row_bytes r) ≡ 16
unfolding row_bytes number_bytes numbers
length_row (register d n) = refl
length_row (go j n k) = refl
length_row (guard j i f l r) = refl
length_row (out o r) = refl

pub length_bytes : (l : List Row) → length (rows_bytes l) ≡ 16 * length l
unfolding rows_bytes
length_bytes [] = refl
length_bytes (r ∷ l) =
    let a = length-append (row_bytes r) (rows_bytes l) in
    let b = length_row r in
    let h = length_bytes l in
    omega arith

pub bytes_append : (l m : List Row) → rows_bytes (l ++ m) ≡ rows_bytes l ++ rows_bytes m
unfolding rows_bytes
bytes_append [] m = refl
bytes_append (r ∷ l) m = rw (bytes_append l m, append_assoc (row_bytes r) (rows_bytes l) (rows_bytes m))

-- The bytes of 16-bit numbers are bytes.
are_bytes : (vs : List ℕ) → ((v : ℕ) → Has vs v → v < 65536) → (b : ℕ) → Has (number_bytes vs) b → b < 256
unfolding number_bytes
are_bytes [] h b m = absurd (Memᴰ.not-nil m)
are_bytes (v ∷ vs) h b m =
    let e = div-add-mod v 256 in
    let l : v % 256 < 256 = mod-lt v (omega arith) in
    let k = h v (Memᴰ.head refl) in
    ⊎_elim (λ q. omega arith) (λ n. ⊎_elim (λ q. omega arith) (are_bytes vs (λ w i. h w (Memᴰ.tail i)) b) (Memᴰ.cases_cons n)) (Memᴰ.cases_cons m)

pub rows_are_bytes : (l : List Row) → ((r : Row) → Has l r → Fits r) → (b : ℕ) → Has (rows_bytes l) b → b < 256
unfolding rows_bytes row_bytes
rows_are_bytes [] h b m = absurd (Memᴰ.not-nil m)
rows_are_bytes (r ∷ l) h b m =
    ⊎_elim (are_bytes (numbers r) (h r (Memᴰ.head refl)) b) (rows_are_bytes l (λ q k. h q (Memᴰ.tail k)) b)
    (Memᴰ.append_cases (row_bytes r) m)
