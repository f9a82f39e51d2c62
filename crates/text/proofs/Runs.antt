-- The run of one kind from a place on.
-- Assumes nothing.
use Prim.Native.Nat.{ℕ, suc, ◌+◌, ◌≤◌, ◌<◌}
use mathlib.Core.List.{List}
use mathlib.Core.Path.{◌≡◌}
use native.Mathlib.Numerals.{add-one}
use lib.ListN.{length, get_or, drop, drop_of_length-le}
use lib.Seq.{drop-cons}
use borrow.Author.Tests.{lt-ltb, le-ltb, eq-eqb, ne_eqb}
use Rattle.text.specs.Letters.{kind_of, run, past, word_end}
use Rattle.numbers.specs.Tests.{and_both}
use borrow.Author.Tests.{leb-true}
use lib.Dec.{leb}
use mathlib.Core.Bool.{true, ◌&&◌}

module _ (line : List ℕ) (i kind : ℕ) where
  pub run_on : i < length line → kind_of (get_or line i 0) ≡ kind → run kind (drop i line) ≡ suc (run kind (drop (i + 1) line))
  unfolding run
  run_on l e = rw (drop-cons line i 0 l, eq-eqb _ _ e, add-one i)

  pub run_stops : i < length line → (kind_of (get_or line i 0) ≡ kind → ⊥) → run kind (drop i line) ≡ 0
  unfolding run
  run_stops l n = rw (drop-cons line i 0 l, ne_eqb _ _ n)

  pub run_ends : length line ≤ i → run kind (drop i line) ≡ 0
  unfolding run
  run_ends l = rw (drop_of_length-le line {i = i} l)

-- The four ways in which a word ends.
module _ (line : List ℕ) (start : ℕ) where
  abbrev first_kind : ℕ
  first_kind = kind_of (get_or line start 0)

  pub ends_with_line : length line ≤ start → start ≡ word_end line start
  ends_with_line l = rw (le-ltb start (length line) l)

  pub ends_after_one : start < length line → first_kind ≡ 1 → start + 1 ≡ word_end line start
  ends_after_one l e = rw (lt-ltb start (length line) l, eq-eqb first_kind 1 e)

  pub ends_after_run : start < length line → (first_kind ≡ 1 → ⊥) → first_kind ≡ 3 → past line start 3 ≡ word_end line start
  ends_after_run l n e = rw (lt-ltb start (length line) l, ne_eqb first_kind 1 n, eq-eqb first_kind 3 e)

  pub ends_at_once : start < length line → (first_kind ≡ 1 → ⊥) → (first_kind ≡ 3 → ⊥) → start ≡ word_end line start
  ends_at_once l n m = rw (lt-ltb start (length line) l, ne_eqb first_kind 1 n, ne_eqb first_kind 3 m)

-- Both sides of two tests that hold.
pub both_true : (a b c d : ℕ) → (leb a b && leb c d) ≡ true → (a ≤ b) × (c ≤ d)
both_true a b c d e =
    let p = and_both (leb a b) (leb c d) e in
    (leb-true _ _ p.0, leb-true _ _ p.1)
