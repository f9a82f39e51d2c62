-- What the digits from a place on say: as much as those behind the next one, if it is one.
-- Assumes nothing.
use Prim.Native.Nat.{ℕ, ◌+◌, ◌-◌, ◌*◌, ◌≤◌, ◌<◌}
use mathlib.Core.Bool.{Bool, true, false}
use mathlib.Core.List.{List, [], ◌∷◌}
use mathlib.Core.Path.{◌≡◌, refl}
use native.Mathlib.Omega.{arith}
use native.Mathlib.Numerals.{add-one}
use lib.ListN.{length, get_or, drop, drop_of_length-le}
use lib.Seq.{drop-cons}
use Rattle.std.specs.Prelude.{Some, None, cond}
use Rattle.words.specs.Said.{goes_on, with_digit, said_from, said}
use Rattle.numbers.specs.Tests.{and_both}
use borrow.Author.Tests.{le-leb, lt-leb, leb-true}
use lib.Dec.{leb}
use native.Mathlib.Decide.{dec_le}
use mathlib.Core.Path.{sym}
use mathlib.Core.Bool.{not, ◌&&◌}

module _ (s : List ℕ) (v i : ℕ) where
  pub digit_more : (w : ℕ) → i < length s → with_digit v (get_or s i 0) ≡ Some w → said_from v (drop i s) ≡ said_from w (drop (i + 1) s)
  unfolding said_from
  digit_more w l = go (goes_on v (get_or s i 0)) refl
    where
      go : (t : Bool) → goes_on v (get_or s i 0) ≡ t → cond t (Some (10 * v + (get_or s i 0 - 48))) None ≡ Some w → said_from v (drop i s) ≡ said_from w (drop (i + 1) s)
      go true e f = let is : 10 * v + (get_or s i 0 - 48) ≡ w = cc in rw (drop-cons s i 0 l, e, is, add-one i)
      go false e f = absurd (let z : ◌≡◌ {A = ℕ} 0 1 = cc in omega arith)

  pub digit_none : i < length s → with_digit v (get_or s i 0) ≡ None → said_from v (drop i s) ≡ None
  unfolding said_from
  digit_none l = go (goes_on v (get_or s i 0)) refl
    where
      go : (t : Bool) → goes_on v (get_or s i 0) ≡ t → cond t (Some (10 * v + (get_or s i 0 - 48))) None ≡ None → said_from v (drop i s) ≡ None
      go true e f = absurd (let z : ◌≡◌ {A = ℕ} 0 1 = cc in omega arith)
      go false e f = rw (drop-cons s i 0 l, e)

  pub digits_end : length s ≤ i → said_from v (drop i s) ≡ Some v
  unfolding said_from
  digits_end l = rw (drop_of_length-le s {i = i} l)

pub said_some : (s : List ℕ) → 0 < length s → said_from 0 s ≡ said s
said_some [] l = absurd (omega arith)
said_some (b ∷ s) l = refl

-- ---- when a byte is one more digit, test by test
module _ (v b : ℕ) where
  pub too_low : b < 48 → false ≡ goes_on v b
  too_low l = rw (lt-leb 48 b l)

  pub too_high : 48 ≤ b → 57 < b → false ≡ goes_on v b
  too_high l m = rw (le-leb 48 b l, lt-leb b 57 m)

  pub too_many : 48 ≤ b → b ≤ 57 → 1844674407370955161 < v → false ≡ goes_on v b
  too_many l m w = rw (le-leb 48 b l, le-leb b 57 m, lt-leb (10 * v + (b - 48)) 18446744073709551615 (omega arith))

  pub as_room : 48 ≤ b → b ≤ 57 → v ≤ 1844674407370955161 → leb (b - 48) (18446744073709551615 - 10 * v) ≡ goes_on v b
  as_room l m w = rw (le-leb 48 b l, le-leb b 57 m) (go (dec_le (10 * v + (b - 48)) 18446744073709551615))
    where
      go : Dec (10 * v + (b - 48) ≤ 18446744073709551615) → leb (b - 48) (18446744073709551615 - 10 * v) ≡ leb (10 * v + (b - 48)) 18446744073709551615
      go (yes h) = rw (le-leb (10 * v + (b - 48)) 18446744073709551615 h) (le-leb (b - 48) (18446744073709551615 - 10 * v) (omega arith))
      go (no h) = rw (lt-leb (10 * v + (b - 48)) 18446744073709551615 (omega arith)) (lt-leb (b - 48) (18446744073709551615 - 10 * v) (omega arith))

  pub a_digit : goes_on v b ≡ true → (48 ≤ b) × (b ≤ 57) × (10 * v + (b - 48) ≤ 18446744073709551615)
  a_digit e =
      let p = and_both (leb 48 b) (leb b 57 && leb (10 * v + (b - 48)) 18446744073709551615) e in
      let q = and_both (leb b 57) (leb (10 * v + (b - 48)) 18446744073709551615) p.1 in
      (leb-true _ _ p.0, leb-true _ _ q.0, leb-true _ _ q.1)

pub said_none : (s : List ℕ) → length s ≡ 0 → None ≡ said s
said_none [] e = refl
said_none (b ∷ s) e = absurd (omega arith)

pub is_not : (x : Bool) → not x ≡ true → x ≡ false
is_not true e = sym e
is_not false e = refl

pub is_so : (x : Bool) → not x ≡ false → x ≡ true
is_so true e = refl
is_so false e = sym e
