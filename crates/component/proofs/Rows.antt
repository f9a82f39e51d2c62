-- A row that is put into a table is there, and the other rows stay.
-- Assumes nothing.
use Prim.Native.Nat.{ℕ, ◌+◌, ◌*◌, ◌≤◌}
use mathlib.Core.Path.{◌≡◌, refl, ◌∙◌}
use mathlib.Core.List.{List}
use mathlib.Core.Logic.{◌≢◌}
use native.Mathlib.Omega.{arith}
use lib.ListN.{length, get_or, set, length-set}
use lib.Seq.{get_or-set_same, get_or-set_other}
use native.Mathlib.Decide.{ℕ_discrete}
use borrow.Author.Tests.{eq-eqb, ne_eqb}
use Rattle.reading.specs.Changed.{changed}
use Rattle.signatures.specs.declared.Signature.{Signature}
use Rattle.reader.specs.Rows.{row, row_in, put_row}

pub length_put : (l : List ℕ) (c : ℕ) (w : Signature) → length (put_row l c w) ≡ length l
unfolding put_row
length_put l c w = simp length-set

-- Five numbers from place i on.
module _ (l : List ℕ) (i a b c d e : ℕ) where
  five : List ℕ
  five = set (set (set (set (set l i a) (i + 1) b) (i + 2) c) (i + 3) d) (i + 4) e

  module _ (fits : i + 5 ≤ length l) where
    at_0 : get_or five i 0 ≡ a
    unfolding five
    at_0 =
        get_or-set_other (set (set (set (set l i a) (i + 1) b) (i + 2) c) (i + 3) d) (i + 4) i e 0 (λ z. absurd (omega arith))
        ∙ get_or-set_other (set (set (set l i a) (i + 1) b) (i + 2) c) (i + 3) i d 0 (λ z. absurd (omega arith))
        ∙ get_or-set_other (set (set l i a) (i + 1) b) (i + 2) i c 0 (λ z. absurd (omega arith))
        ∙ get_or-set_other (set l i a) (i + 1) i b 0 (λ z. absurd (omega arith))
        ∙ get_or-set_same l i a 0 (omega arith)

    at_1 : get_or five (i + 1) 0 ≡ b
    unfolding five
    at_1 =
        get_or-set_other (set (set (set (set l i a) (i + 1) b) (i + 2) c) (i + 3) d) (i + 4) (i + 1) e 0 (λ z. absurd (omega arith))
        ∙ get_or-set_other (set (set (set l i a) (i + 1) b) (i + 2) c) (i + 3) (i + 1) d 0 (λ z. absurd (omega arith))
        ∙ get_or-set_other (set (set l i a) (i + 1) b) (i + 2) (i + 1) c 0 (λ z. absurd (omega arith))
        ∙ get_or-set_same (set l i a) (i + 1) b 0 (simp length-set (omega arith))

    at_2 : get_or five (i + 2) 0 ≡ c
    unfolding five
    at_2 =
        get_or-set_other (set (set (set (set l i a) (i + 1) b) (i + 2) c) (i + 3) d) (i + 4) (i + 2) e 0 (λ z. absurd (omega arith))
        ∙ get_or-set_other (set (set (set l i a) (i + 1) b) (i + 2) c) (i + 3) (i + 2) d 0 (λ z. absurd (omega arith))
        ∙ get_or-set_same (set (set l i a) (i + 1) b) (i + 2) c 0 (simp length-set (omega arith))

    at_3 : get_or five (i + 3) 0 ≡ d
    unfolding five
    at_3 =
        get_or-set_other (set (set (set (set l i a) (i + 1) b) (i + 2) c) (i + 3) d) (i + 4) (i + 3) e 0 (λ z. absurd (omega arith))
        ∙ get_or-set_same (set (set (set l i a) (i + 1) b) (i + 2) c) (i + 3) d 0 (simp length-set (omega arith))

    at_4 : get_or five (i + 4) 0 ≡ e
    unfolding five
    at_4 = get_or-set_same (set (set (set (set l i a) (i + 1) b) (i + 2) c) (i + 3) d) (i + 4) e 0 (simp length-set (omega arith))

  elsewhere : (j : ℕ) → j ≢ i → j ≢ i + 1 → j ≢ i + 2 → j ≢ i + 3 → j ≢ i + 4 → get_or five j 0 ≡ get_or l j 0
  unfolding five
  elsewhere j p q r s t =
      get_or-set_other (set (set (set (set l i a) (i + 1) b) (i + 2) c) (i + 3) d) (i + 4) j e 0 t
      ∙ get_or-set_other (set (set (set l i a) (i + 1) b) (i + 2) c) (i + 3) j d 0 s
      ∙ get_or-set_other (set (set l i a) (i + 1) b) (i + 2) j c 0 r
      ∙ get_or-set_other (set l i a) (i + 1) j b 0 q
      ∙ get_or-set_other l i j a 0 p

module _ (l : List ℕ) (c : ℕ) (w : Signature) where
  pub row_there : 5 * c + 5 ≤ length l → row_in (put_row l c w) c ≡ row w
  unfolding row_in put_row five
  row_there fits =
      rw (
        at_0 l (5 * c) w.class w.delay w.inputs w.outputs w.first fits,
        at_1 l (5 * c) w.class w.delay w.inputs w.outputs w.first fits,
        at_2 l (5 * c) w.class w.delay w.inputs w.outputs w.first fits,
        at_3 l (5 * c) w.class w.delay w.inputs w.outputs w.first fits,
        at_4 l (5 * c) w.class w.delay w.inputs w.outputs w.first fits,
      )

  pub row_elsewhere : (b : ℕ) → b ≢ c → row_in (put_row l c w) b ≡ row_in l b
  unfolding row_in put_row five
  row_elsewhere b d =
      let same : (k : ℕ) → k ≤ 4 → get_or (five l (5 * c) w.class w.delay w.inputs w.outputs w.first) (5 * b + k) 0 ≡ get_or l (5 * b + k) 0 = λ k m.
      elsewhere l (5 * c) w.class w.delay w.inputs w.outputs w.first (5 * b + k) (λ z. absurd (d (omega arith))) (λ z. absurd (d (omega arith))) (λ z. absurd (d (omega arith))) (λ z. absurd (d (omega arith))) (λ z. absurd (d (omega arith))) in
      let first = elsewhere l (5 * c) w.class w.delay w.inputs w.outputs w.first (5 * b) (λ z. absurd (d (omega arith))) (λ z. absurd (d (omega arith))) (λ z. absurd (d (omega arith))) (λ z. absurd (d (omega arith))) (λ z. absurd (d (omega arith))) in
      rw (first, same 1 (omega arith), same 2 (omega arith), same 3 (omega arith), same 4 (omega arith))

-- The table with a row stored, as a function.
pub row_stored : (rows : List ℕ) (n : ℕ) (w : Signature) → 5 * n + 5 ≤ length rows → (c : ℕ) → row_in (put_row rows n w) c ≡ changed (λ b. row_in rows b) n (row w) c
unfolding changed
row_stored rows n w f c = go (ℕ_discrete c n)
  where
    go : Dec (c ≡ n) → row_in (put_row rows n w) c ≡ changed (λ b. row_in rows b) n (row w) c
    go (yes e) = rw (e, eq-eqb n n refl) (row_there rows n w f)
    go (no d) = rw (ne_eqb c n d) (row_elsewhere rows n w c d)
