-- A component's rows are those that Places tells, each in its place and nowhere else.
-- Assumes nothing.
use Prim.Native.Nat.{ℕ, zero, suc, ◌<◌}
use Rattle.std.specs.Prelude.{◌≡◌, List, ◌++◌, ◌↔◌, length, get_or}
use Rattle.std.proofs.Math.Path.{refl, ap}
use mathlib.Core.List.Memᴰ
use Rattle.std.proofs.Math.Logic.{⊎_elim}
use Rattle.std.proofs.Math.ListN.{length-append}
use Rattle.std.proofs.Common.{ext_get_or}
use native.Mathlib.Omega.{arith}
use Rattle.timeline.specs.Design.{Design, input_count, output_count, invocation_count, invoked}
use Rattle.timeline.specs.Flat.{join_below}
use Rattle.timetable.specs.Lists.{Has, list_below}
use Rattle.timetable.specs.Rows.{Row, register, go, guard, out, register_row, go_row, guard_row, out_row, invocation_rows, rows_before, rows}
use Rattle.timetable.specs.Places.{RowOf, go_place, guard_place, out_place, row_count, place}
use Rattle.timetable.proofs.Lists.{in_join, to_join, in_list, to_list, length_list, has_at}
use Rattle.timetable.proofs.Placed.{Placed, placed_append, placed_list, placed_at, placed_there}

module _ (D : Design) (c : ℕ) where
  of_invocation : (j : ℕ) (r : Row) → j < invocation_count D c → Has (invocation_rows D c j) r → Has (rows D c) r
  unfolding rows rows_before
  of_invocation j r l m = Memᴰ.tail (Memᴰ.append_left _ (to_join (invocation_count D c) (invocation_rows D c) j l m))

  to_rows : (r : Row) → RowOf D c r → Has (rows D c) r
  unfolding rows rows_before invocation_rows
  to_rows (register d n) e = Memᴰ.head e
  to_rows (go j n k) h = of_invocation j (go j n k) h.0 (Memᴰ.head h.1)
  to_rows (guard j i f l r) h =
      of_invocation j (guard j i f l r) h.0 (Memᴰ.tail (to_list (input_count D (invoked D c j)) (guard_row D c j) i h.1 h.2))
  to_rows (out o r) h = Memᴰ.append_right (rows_before D c (invocation_count D c)) (to_list (output_count D c) (out_row D c) o h.0 h.1)

  in_rows : (r : Row) → Has (rows D c) r → RowOf D c r
  unfolding rows rows_before invocation_rows register_row go_row guard_row out_row
  in_rows r m = ⊎_elim (λ e. rw e refl) (λ k. ⊎_elim called connected (Memᴰ.append_cases (join_below (invocation_count D c) (invocation_rows D c)) k)) (Memᴰ.cases_cons m)
    where
      called : Has (join_below (invocation_count D c) (invocation_rows D c)) r → RowOf D c r
      called k =
          let q = in_join (invocation_count D c) (invocation_rows D c) k in
          ⊎_elim
          (λ e. rw e (q.1, refl))
          (λ g. let p = in_list (input_count D (invoked D c q.0)) (guard_row D c q.0) g in rw p.2 (q.1, p.1, refl))
          (Memᴰ.cases_cons q.2)

      connected : Has (list_below (output_count D c) (out_row D c)) r → RowOf D c r
      connected k = let q = in_list (output_count D c) (out_row D c) k in rw q.2 (q.1, refl)

  -- The rows are these and no others.
  pub rows_are : (r : Row) → Has (rows D c) r ↔ RowOf D c r
  rows_are r = (in_rows r, to_rows r)

  -- The rows grow invocation by invocation, and last by the outputs.
  pub rows_next : (j : ℕ) → rows_before D c (suc j) ≡ rows_before D c j ++ invocation_rows D c j
  unfolding rows_before
  rows_next j = refl

  pub rows_last : rows D c ≡ rows_before D c (invocation_count D c) ++ list_below (output_count D c) (out_row D c)
  unfolding rows
  rows_last = refl

  pub length_invocation : (j : ℕ) → length (invocation_rows D c j) ≡ suc (input_count D (invoked D c j))
  unfolding invocation_rows
  length_invocation j = ap suc (length_list (input_count D (invoked D c j)) (guard_row D c j))

  pub length_before : (j : ℕ) → length (rows_before D c j) ≡ go_place D c j
  unfolding rows_before go_place
  length_before zero = refl
  length_before (suc j) =
      let h = length_before j in
      let a = length-append (join_below j (invocation_rows D c)) (invocation_rows D c j) in
      let b = length_invocation j in
      omega arith

  pub length_rows : length (rows D c) ≡ row_count D c
  unfolding rows row_count out_place
  length_rows =
      let h = length_before (invocation_count D c) in
      let a = length-append (rows_before D c (invocation_count D c)) (list_below (output_count D c) (out_row D c)) in
      let b = length_list (output_count D c) (out_row D c) in
      omega arith

  placed_invocation : (j : ℕ) → Placed (place D c) (go_place D c j) (invocation_rows D c j)
  unfolding invocation_rows go_row guard_row guard_place
  placed_invocation j =
      (refl, placed_list (place D c) (suc (go_place D c j)) (input_count D (invoked D c j)) (guard_row D c j) (λ i. omega arith))

  placed_before : (j : ℕ) → Placed (place D c) 0 (rows_before D c j)
  unfolding rows_before register_row
  placed_before zero = (refl, tt)
  placed_before (suc j) =
      placed_append (place D c) 0 (go_place D c j) (rows_before D c j) (invocation_rows D c j) (placed_before j)
      (let h = length_before j in omega arith) (placed_invocation j)

  placed : Placed (place D c) 0 (rows D c)
  unfolding rows out_row out_place
  placed =
      placed_append (place D c) 0 (go_place D c (invocation_count D c)) (rows_before D c (invocation_count D c))
      (list_below (output_count D c) (out_row D c)) (placed_before (invocation_count D c))
      (let h = length_before (invocation_count D c) in omega arith)
      (placed_list (place D c) (go_place D c (invocation_count D c)) (output_count D c) (out_row D c) (λ o. refl))

  -- Each row stands in its place.
  pub row_at : (d r : Row) → RowOf D c r → (place D c r < row_count D c) × (get_or (rows D c) (place D c r) d ≡ r)
  row_at d r h = rw (← length_rows) (placed_there (place D c) 0 (rows D c) d r (place D c r) placed (to_rows r h) (omega arith))

  -- In each place stands a row that has it.
  pub place_has : (d : Row) (i : ℕ) → i < row_count D c → RowOf D c (get_or (rows D c) i d) × (place D c (get_or (rows D c) i d) ≡ i)
  place_has d i l =
      let k : i < length (rows D c) = let e = length_rows in omega arith in
      let e = placed_at (place D c) 0 (rows D c) d i placed k in
      (in_rows (get_or (rows D c) i d) (has_at (rows D c) d i k), omega arith)

  -- No other list of as many has each row of the component in its place.
  pub rows_only : (d : Row) (l : List Row) → length l ≡ row_count D c → ((r : Row) → RowOf D c r → get_or l (place D c r) d ≡ r) → l ≡ rows D c
  rows_only d l e h =
      let n = length_rows in
      ext_get_or d l (rows D c) (omega arith) (λ i k.
      let p = place_has d i (omega arith) in
      rw p.1 at (h (get_or (rows D c) i d) p.0))
