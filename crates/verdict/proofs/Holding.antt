-- What holds at each turn of `verdict::hold`: the rows that are still wanted, put into the numbers that there are, give what the whole call gives.
-- Assumes nothing.
use Prim.Native.Nat.{ℕ, suc, ◌+◌, ◌*◌, ◌≤◌, ◌<◌}
use mathlib.Core.Path.{◌≡◌, refl, sym, ap}
use mathlib.Core.List.{List, ◌∷◌}
use native.Mathlib.Omega.{arith}
use native.Mathlib.Numerals.{add-one}
use lib.ListN.{length, get_or}
use Rattle.std.specs.Prelude.{Option, None, Some, IfSome}
use Rattle.signatures.specs.declared.Signature.{Signature}
use Rattle.signatures.specs.Rows.{zero_row}
use Rattle.reader.specs.Rows.{put_row}
use Rattle.component.specs.declared.Wanted.{Wanted}
use Rattle.component.specs.Wanted.{wanted, later, placed, Sound, gathered}
use Rattle.component.proofs.Rows.{length_put}

-- A first row that goes to place 0 names that place; beside it stands what else is known of it.
pub at_zero : (first : Option Wanted) (A : Type 0) → IfSome first (λ w. (w.place ≡ 0) × A) → (placed first ≡ 0) × IfSome first (λ w. A)
at_zero None A p = (refl, tt)
at_zero (Some w) A p = p

module _ (file : List ℕ) (table : List Signature) where
  -- The row that is wanted next, and all after it, put into the numbers.
  abbrev pub filled : List ℕ → Option Wanted → List ℕ
  filled l None = l
  filled l (Some w) = gathered l table w.place (w.component ∷ later file w)

  -- There is room for them in a table and in so many numbers.
  pub record Fits (n : ℕ) (w : Wanted) : Type 0 where
    pub sound : Sound file w
    pub enough : 64 ≤ length table
    pub room : 5 * (w.place + suc (length (later file w))) ≤ n

  pub record Holding (whole : List ℕ) (next : Option Wanted) (l : List ℕ) : Type 0 where
    pub fits : IfSome next (Fits (length l))
    pub so_far : filled l next ≡ whole

  -- Before the first turn: whatever place the first row goes to.
  pub begins_placed : (rows : List ℕ) (first : Option Wanted) → IfSome first (Sound file) × IfSome first (λ w. 64 ≤ length table) × (5 * (placed first + length (wanted file first)) ≤ length rows) → Holding (gathered rows table (placed first) (wanted file first)) first rows
  unfolding gathered
  begins_placed rows None p = record { fits = tt; so_far = refl }
  begins_placed rows (Some w) p = record { fits = record { sound = p.0; enough = p.1; room = p.2 }; so_far = refl }

  -- And where it goes to place 0.
  pub begins : (rows : List ℕ) (first : Option Wanted) → IfSome first (Sound file) × IfSome first (λ w. (w.place ≡ 0) × (64 ≤ length table)) × (5 * length (wanted file first) ≤ length rows) → Holding (gathered rows table 0 (wanted file first)) first rows
  begins rows first p =
      let z = at_zero first (64 ≤ length table) p.1 in
      let e = z.0 in
      rw z.0 at (begins_placed rows first (p.0, z.1, omega arith))

  -- Where no row is wanted any more.
  pub ends : {whole : List ℕ} (next : Option Wanted) (l : List ℕ) → Holding whole next l → next ≡ None → l ≡ whole
  ends None l h e = h.so_far
  ends (Some w) l h e = cc

  pub fewer : (w : Wanted) (r : Option Wanted) → wanted file r ≡ later file w → length (wanted file r) < length (wanted file (Some w))
  fewer w r e = rw e (omega arith)

  module _ (w : Wanted) (l : List ℕ) (f : Fits (length l) w) where
    pub in_table : w.component < length table
    in_table = omega (arith, f.enough, f.sound.below)

    pub in_rows : 5 * w.place + 5 ≤ length l
    in_rows = omega (arith, f.room)

    -- After a turn, in which this row is put into the numbers.
    pub goes_on : {s : Signature} → s ≡ get_or table w.component zero_row → {put : List ℕ} → put ≡ put_row l w.place s → {whole : List ℕ} → filled l (Some w) ≡ whole
        → (r : Option Wanted) → IfSome r (Sound file) × (wanted file r ≡ later file w) × IfSome r (λ v. v.place ≡ w.place + 1) → Holding whole r put
    unfolding gathered
    goes_on row-is put-is so None p = record { fits = tt; so_far = rw (put-is, row-is) (rw (sym p.1) at so) }
    goes_on {s} row-is put-is so (Some v) p =
        let y = length_put l w.place s in
        let e : w.place + 1 ≡ suc w.place = add-one w.place in
        let place : v.place ≡ w.place + 1 = p.2 in
        let count : suc (length (later file v)) ≡ length (later file w) = ap length p.1 in
        let room = f.room in
        record { fits = record { sound = p.0; enough = f.enough; room = rw put-is (omega arith) }; so_far = rw (p.1, p.2, e, put-is, row-is) so }
