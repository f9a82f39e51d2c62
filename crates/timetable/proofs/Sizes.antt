-- How large it all is: n, the states that rows name, the number of rows, and the numbers in a row.
-- Assumes nothing.
use Prim.Native.Nat.{ℕ, zero, suc, ◌+◌, ◌*◌, ◌≤◌, ◌<◌}
use Rattle.std.specs.Prelude.{◌≡◌, List, [], ◌∷◌, length}
use mathlib.Core.List.Memᴰ
use Rattle.std.proofs.Common.{⊎_elim}
use native.Mathlib.Omega.{arith}
use Rattle.timeline.specs.Design.{Design, built, class, delay, invocation_count, instance, invoked, offset, gives}
use Rattle.timeline.specs.Rules.{Ranges, Whole, Counts}
use Rattle.timeline.proofs.Down.{Placed, use_there, use_ranges}
use Rattle.entry.specs.Records.{Record}
use Rattle.entry.specs.Numbers.{argument_number, connection_number, Standing}
use Rattle.timetable.specs.Lists.{Has}
use Rattle.timetable.specs.States.{states}
use Rattle.timetable.specs.Rows.{Row, register, go, guard, out, numbers, first_state, last_state, register_row, go_row, guard_row, out_row, rows}
use Rattle.timetable.specs.Places.{RowOf, Within, go_place, out_place, row_count}
use Rattle.timetable.specs.Bytes.{Fits}
use Rattle.timetable.proofs.Rows.{rows_are}
use Rattle.timetable.proofs.States.{states_cover, states_least}
use Rattle.timetable.proofs.Right.{input_range}

module _ {D : Design} {c : ℕ} (h : Placed D c) where
  ranges : Ranges D c
  ranges = h.lawful.ranges c h.there

  counts : Counts D c
  counts = h.lawful.counts c h.there

  invoked_counts : (j : ℕ) → j < invocation_count D c → Counts D (invoked D c j)
  invoked_counts j l = h.lawful.counts (invoked D c j) (use_there h (j ∷ []) (l, tt))

  -- "So n ≤ 2,047."
  pub states_most : states D c ≤ 2047
  unfolding gives
  states_most =
      states_least D c 2047 (record {
        one = omega arith;
        own_inputs = λ i l. let a = (ranges.input_range i l).most in omega arith;
        own_outputs = λ o l. let a = (ranges.output_range o l).most in omega arith;
        starts = λ j l. omega (arith, (ranges.invocation_range j l).1);
        inputs = λ j l i k. let a = (input_range h j i l k).most in omega (arith, (ranges.invocation_range j l).1);
        outputs = λ j l o k. let a = ((use_ranges h (j ∷ []) (l, tt)).output_range o k).most in omega (arith, (ranges.invocation_range j l).1);
      })

  pub within : (r : Row) → RowOf D c r → Within (states D c) r
  unfolding register_row go_row guard_row first_state last_state
  within (register d n) e = cc (e)
  within (go j n k) m =
      let a = (states_cover D c).starts j m.0 in
      let e : k ≡ offset D c j = cc m.1 in
      omega arith
  within (guard j i f l r) m =
      let a = (states_cover D c).inputs j m.0 i m.1 in
      let b = (input_range h j i m.0 m.1).some in
      let d : f ≡ first_state D c j i = cc m.2 in
      let e : l ≡ last_state D c j i = cc m.2 in
      (omega arith, omega arith)
  within (out o r) m = tt

  -- A row for each of at most 64 invocations, and for each of its at most 16 inputs.
  places_most : (j : ℕ) → j ≤ invocation_count D c → go_place D c j ≤ 1 + 17 * j
  unfolding go_place
  places_most zero l = omega arith
  places_most (suc j) l =
      let a = places_most j (omega arith) in
      let b = (invoked_counts j l).few_inputs in
      omega arith

  pub rows_most : row_count D c ≤ 1105
  unfolding row_count out_place
  rows_most =
      let a = places_most (invocation_count D c) (omega arith) in
      let b = counts.few_invocations in
      let d = counts.few_outputs in
      omega arith

-- Eight numbers fit if each of them does.
eight_fit : (a b c d e f g h : ℕ) → a < 65536 → b < 65536 → c < 65536 → d < 65536 → e < 65536 → f < 65536 → g < 65536 → h < 65536
    → (v : ℕ) → Has (a ∷ b ∷ c ∷ d ∷ e ∷ f ∷ g ∷ h ∷ []) v → v < 65536
eight_fit a b c d e f g h p q r s t u w x v m =
    one_of p (one_of q (one_of r (one_of s (one_of t (one_of u (one_of w (one_of x (λ k. absurd (Memᴰ.not-nil k))))))))) m
  where
    one_of : {y : ℕ} {ys : List ℕ} → y < 65536 → (Has ys v → v < 65536) → Has (y ∷ ys) v → v < 65536
    one_of l rest k = ⊎_elim (λ e. rw e l) rest (Memᴰ.cases_cons k)

module _ {D : Design} {c : ℕ} (h : Placed D c) (is_built : class D c ≡ built) (rs : List Record) (standing : Standing D c rs) (most : length rs ≤ 3968) where
  whole : Whole D c
  whole = h.lawful.whole c h.there

  fits_of : (r : Row) → RowOf D c r → Within (states D c) r → Fits r
  unfolding numbers register_row go_row guard_row out_row
  fits_of (register d n) q w =
      let a = (ranges h).delay_most in
      let b = states_most h in
      let e : d ≡ delay D c = cc (q) in
      eight_fit _ _ _ _ _ _ _ _ (omega arith) (omega arith) (omega arith) (omega arith) (omega arith) (omega arith) (omega arith) (omega arith)
  fits_of (go j n k) m w =
      let a = (counts h).few_invocations in
      let b = states_most h in
      let d = ((ranges h).invocation_range j m.0).0 in
      let e : n ≡ instance D c j = cc m.1 in
      eight_fit _ _ _ _ _ _ _ _ (omega arith) (omega (arith, m.0)) (omega arith) (omega arith) (omega arith) (omega arith) (omega arith) (omega arith)
  fits_of (guard j i f l r) m w =
      let a = (counts h).few_invocations in
      let b = states_most h in
      let d = (invoked_counts h j m.0).few_inputs in
      let e : r ≡ argument_number D c j i = cc m.2 in
      let p = (standing.argument_at j m.0 i (omega (arith, m.1, whole.all_arguments j m.0))).below in
      eight_fit _ _ _ _ _ _ _ _ (omega arith) (omega (arith, m.0)) (omega (arith, m.1)) (omega (arith, w.0, w.1)) (omega (arith, w.1)) (omega arith) (omega arith) (omega arith)
  fits_of (out o r) m w =
      let a = (counts h).few_outputs in
      let e : r ≡ connection_number D c o = cc m.1 in
      let p = (standing.connection_at o (omega (arith, m.0, whole.all_connections is_built))).below in
      eight_fit _ _ _ _ _ _ _ _ (omega arith) (omega (arith, m.0)) (omega arith) (omega arith) (omega arith) (omega arith) (omega arith) (omega arith)

  pub rows_fit : (r : Row) → Has (rows D c) r → Fits r
  rows_fit r m = let k = (rows_are D c r).0 m in fits_of r k (within h r k)
