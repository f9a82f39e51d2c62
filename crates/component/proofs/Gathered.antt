-- Numbers with the rows of some components: each row is there, and how many components there are.
-- Assumes nothing.
use Prim.Native.Nat.{ℕ, zero, suc, ◌+◌, ◌*◌, ◌≤◌, ◌<◌}
use mathlib.Core.Bool.{Bool, true, false, cond, ◌||◌, not}
use mathlib.Core.Path.{◌≡◌, refl, ap, ◌∙◌}
use mathlib.Core.List.{List, [], ◌∷◌}
use native.Mathlib.Omega.{arith}
use lib.Dec.{eqb, leb}
use lib.ListN.{length, get_or}
use borrow.Author.Tests.{leb-false}
use Rattle.signatures.specs.declared.Signature.{Signature}
use Rattle.signatures.specs.Rows.{zero_row}
use Rattle.reader.specs.Rows.{row, row_in, put_row}
use Rattle.look.specs.Look.{kind, first_number}
use Rattle.component.specs.Ahead.{ahead}
use Rattle.component.specs.Wanted.{in_order, gathered}
use Rattle.component.proofs.Rows.{length_put, row_there, row_elsewhere}

pub gathered_length : (rows : List ℕ) (table : List Signature) (place : ℕ) (cs : List ℕ) → length (gathered rows table place cs) ≡ length rows
unfolding gathered
gathered_length rows table place [] = refl
gathered_length rows table place (c ∷ cs) = gathered_length (put_row rows place (get_or table c zero_row)) table (suc place) cs ∙ length_put rows place (get_or table c zero_row)

-- What stands before stays.
gathered_before : (rows : List ℕ) (table : List Signature) (place : ℕ) (cs : List ℕ) (m : ℕ) → m < place → row_in (gathered rows table place cs) m ≡ row_in rows m
unfolding gathered
gathered_before rows table place [] m l = refl
gathered_before rows table place (c ∷ cs) m l =
    gathered_before (put_row rows place (get_or table c zero_row)) table (suc place) cs m (omega arith) ∙ row_elsewhere rows place (get_or table c zero_row) m (λ e. absurd (omega arith))

pub gathered_row : (rows : List ℕ) (table : List Signature) (place : ℕ) (cs : List ℕ) → 5 * (place + length cs) ≤ length rows → (m : ℕ) → m < length cs → row_in (gathered rows table place cs) (place + m) ≡ row (get_or table (get_or cs m 0) zero_row)
unfolding gathered
gathered_row rows table place [] f m l = absurd (omega arith)
gathered_row rows table place (c ∷ cs) f zero l =
    let e : place + 0 ≡ place = omega arith in
    rw e (gathered_before (put_row rows place (get_or table c zero_row)) table (suc place) cs place (omega arith) ∙ row_there rows place (get_or table c zero_row) (omega arith))
gathered_row rows table place (c ∷ cs) f (suc m) l =
    let e : place + suc m ≡ suc place + m = omega arith in
    let y = length_put rows place (get_or table c zero_row) in
    rw e (gathered_row (put_row rows place (get_or table c zero_row)) table (suc place) cs (omega arith) m (omega arith))

-- No more than 32 instances.
pub ahead_short : (file : List ℕ) (left i before : ℕ) → before ≤ 32 → before + length (ahead file left i before) ≤ 32
unfolding ahead
ahead_short file zero i before l = omega arith
ahead_short file (suc left) i before l = at_kind (λ r k. ahead_short file left (suc i) r k) (eqb (kind file i) 2)
  where
    Later : Type 0
    Later = (r : ℕ) → r ≤ 32 → r + length (ahead file left (suc i) r) ≤ 32

    at_past : Later → (a b c : Bool) → leb 32 before ≡ c → before + length (cond (a || (b || c)) [] (first_number file i ∷ ahead file left (suc i) (suc before))) ≤ 32
    at_past later true b c e = omega arith
    at_past later false true c e = omega arith
    at_past later false false true e = omega arith
    at_past later false false false e = let b = leb-false 32 before e in let y = later (suc before) (omega arith) in omega arith

    at_kind : Later → (b : Bool) → before + length (cond b (ahead file left (suc i) before) (cond (not (eqb (kind file i) 3) || (leb 64 (first_number file i) || leb 32 before)) [] (first_number file i ∷ ahead file left (suc i) (suc before)))) ≤ 32
    at_kind later true = later before l
    at_kind later false = at_past later (not (eqb (kind file i) 3)) (leb 64 (first_number file i)) (leb 32 before) refl

pub in_order_length : (left c : ℕ) → length (in_order left c) ≡ left
unfolding in_order
in_order_length zero c = refl
in_order_length (suc left) c = ap suc (in_order_length left (suc c))

pub in_order_at : (left c m : ℕ) → m < left → get_or (in_order left c) m 0 ≡ c + m
unfolding in_order
in_order_at zero c m l = absurd (omega arith)
in_order_at (suc left) c zero l = omega arith
in_order_at (suc left) c (suc m) l = let y = in_order_at left (suc c) m (omega arith) in omega arith
