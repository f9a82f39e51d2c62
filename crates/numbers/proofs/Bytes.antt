-- Numbers and their bytes undo each other, over every width; and what keeps a list one of bytes.
-- Assumes nothing.
use Prim.Native.Nat.{ℕ, zero, suc, ◌+◌, ◌*◌, ◌/◌, ◌%◌, ◌^◌, ◌≤◌, ◌<◌}
use mathlib.Core.Path.{◌≡◌, refl, ap, ◌∙◌}
use mathlib.Core.List.{List, [], ◌∷◌, ◌++◌}
use native.Mathlib.Omega.{arith}
use native.Mathlib.Nat.{add-suc}
use native.Mathlib.Numerals.{add-one}
use lib.ListN.{length, get_or, take, drop, replicate, length-take, length-drop, length-replicate, get_or-replicate}
use lib.Seq.{drop-cons, get_or-take, get_or-drop, length-take-le}
use Rattle.numbers.specs.Numbers.{number, bytes, Bytes}

-- ---- lists of bytes
pub none : Bytes []
none i p = absurd (omega arith)

pub more : (x : ℕ) (l : List ℕ) → x < 256 → Bytes l → Bytes (x ∷ l)
more x l h k zero p = h
more x l h k (suc i) p = k i (omega arith)

pub joined : (a b : List ℕ) → Bytes a → Bytes b → Bytes (a ++ b)
joined [] b h k = k
joined (x ∷ a) b h k = more x (a ++ b) (h 0 (omega arith)) (joined a b (λ i p. h (suc i) (omega arith)) k)

pub taken : (n : ℕ) (l : List ℕ) → Bytes l → Bytes (take n l)
taken n l h i p =
    let q = length-take n l in
    let r : i < n = omega arith in
    rw (get_or-take n l i 0 r) (h i (omega arith))

pub dropped : (n : ℕ) (l : List ℕ) → Bytes l → Bytes (drop n l)
dropped n l h i p = let q = length-drop n l in rw (get_or-drop n l i 0) (h (n + i) (omega arith))

pub zeros : (n : ℕ) → Bytes (replicate n 0)
zeros n i p =
    let q : i < n = (let w = length-replicate {A = ℕ} n 0 in omega arith) in
    rw (get_or-replicate {A = ℕ} n i 0 0 q) (omega arith)

pub bytes_small : (w x : ℕ) → Bytes (bytes w x)
bytes_small zero x = none
bytes_small (suc w) x = more (x % 256) (bytes w (x / 256)) (omega arith) (bytes_small w (x / 256))

pub length_bytes : (w x : ℕ) → length (bytes w x) ≡ w
length_bytes zero x = refl
length_bytes (suc w) x = ap suc (length_bytes w (x / 256))

-- ---- four bytes, one by one
next : (s : List ℕ) (at k : ℕ) → at + k < length s → drop (at + k) s ≡ get_or s (at + k) 0 ∷ drop (at + suc k) s
next s at k p = rw add-suc (drop-cons s (at + k) 0 p)

pub four_list : (s : List ℕ) (at : ℕ) → at + 4 ≤ length s
    → take 4 (drop at s) ≡ get_or s at 0 ∷ get_or s (at + 1) 0 ∷ get_or s (at + 2) 0 ∷ get_or s (at + 3) 0 ∷ []
four_list s at p =
    let e : drop at s ≡ get_or s at 0 ∷ drop (at + 1) s = rw add-one (drop-cons s at 0 (omega arith)) in
    rw (e, next s at 1 (omega arith), next s at 2 (omega arith), next s at 3 (omega arith))

-- ---- what a list of bytes says
value : List ℕ → ℕ
value [] = 0
value (b ∷ s) = b + 256 * value s

number_value : (w : ℕ) (s : List ℕ) (at : ℕ) → at + w ≤ length s → number w s at ≡ value (take w (drop at s))
unfolding value
number_value zero s at p = refl
number_value (suc w) s at p =
    let e : drop at s ≡ get_or s at 0 ∷ drop (at + 1) s = rw add-one (drop-cons s at 0 (omega arith)) in
    let h = number_value w s (at + 1) (omega arith) in
    rw (e, h)

value_bytes : (w x : ℕ) → x < 256 ^ w → value (bytes w x) ≡ x
unfolding value
value_bytes zero x p = omega arith
value_bytes (suc w) x p =
    let q : x / 256 < 256 ^ w = omega arith in
    let h = value_bytes w (x / 256) q in
    omega arith

bytes_value : (s : List ℕ) → Bytes s → bytes (length s) (value s) ≡ s
unfolding value
bytes_value [] h = refl
bytes_value (b ∷ s) h =
    let k = h 0 (omega arith) in
    let m : (b + 256 * value s) % 256 ≡ b = omega arith in
    let d : (b + 256 * value s) / 256 ≡ value s = omega arith in
    rw (m, d, bytes_value s (λ i p. h (suc i) (omega arith)))

-- ---- both ways
pub bytes_number : (w : ℕ) (s : List ℕ) (at : ℕ) → Bytes s → at + w ≤ length s → bytes w (number w s at) ≡ take w (drop at s)
bytes_number w s at h p =
    let l : length (take w (drop at s)) ≡ w = length-take-le w (drop at s) (simp length-drop (omega arith)) in
    rw (number_value w s at p) (rw l at (bytes_value (take w (drop at s)) (taken w (drop at s) (dropped at s h))))

pub number_bytes : (w : ℕ) (s : List ℕ) (at x : ℕ) → at + w ≤ length s → x < 256 ^ w → take w (drop at s) ≡ bytes w x → number w s at ≡ x
number_bytes w s at x p q e = number_value w s at p ∙ ap value e ∙ value_bytes w x q

pub number_small : (w : ℕ) (s : List ℕ) (at : ℕ) → Bytes s → at + w ≤ length s → number w s at < 256 ^ w
number_small zero s at h p = omega arith
number_small (suc w) s at h p =
    let b = h at (omega arith) in
    let y = number_small w s (at + 1) h (omega arith) in
    omega arith
