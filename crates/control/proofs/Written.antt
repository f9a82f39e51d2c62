-- The rows of one invocation after another, behind those that are done.
-- Assumes nothing.
use Prim.Native.Nat.{ℕ, ◌+◌, ◌-◌, ◌*◌, ◌≤◌, ◌<◌}
use mathlib.Core.Path.{◌≡◌, sym, ap, ◌∙◌}
use mathlib.Core.List.{List, ◌++◌}
use native.Mathlib.Omega.{arith}
use native.Mathlib.Numerals.{add-one}
use lib.ListN.{length, take, drop}
use Rattle.timeline.specs.Design.{Design}
use Rattle.timetable.specs.Rows.{invocation_rows, rows_before}
use Rattle.timetable.specs.Bytes.{rows_bytes}
use Rattle.timetable.proofs.Laws.{length_before, length_invocation}
use Rattle.rows.specs.declared.Use.{Use}
use Rattle.rows.specs.Rows as Rows
use Rattle.rows.proofs.Laws.{rows_more}
use Rattle.control.specs.declared.Built.{Built}
use Rattle.control.specs.Stands.{design, rows_called, Stands, Begins, UseOf}
use Rattle.control.proofs.Places.{from_first, number_place}
use Rattle.control.proofs.Called.{use_rows}

module _ {b : Built} (h : Stands b) where
  abbrev file : List ℕ
  file = b.judged.file.now

  abbrev E : Design
  E = design b

  abbrev c : ℕ
  c = b.number

  module _ {j i : ℕ} (w : Begins b j i) where
    pub calls_from : b.invocations ≤ i
    calls_from =
        let a = from_first E c j in
        let e = w.at in
        let f = h.invocations_at in
        omega arith

    -- A row for each record since the first invocation.
    pub calls_long : 16 * length (rows_called b j) ≡ 16 * (i - b.invocations)
    unfolding rows_before
    calls_long =
        let a = length_before E c j in
        let n = number_place E c h.opened.lawful h.there j w.up_to in
        let e = w.at in
        let f = h.invocations_at in
        omega arith

    module _ (t : i < b.connections) {u : Use} (g : UseOf E c j u) where
      pub call_more : (n a : ℕ) (d out ys : List ℕ) → n ≡ u.inputs → a ≡ 16 * (i - b.invocations)
          → out ≡ rows_bytes (rows_called b j) ++ drop a d → ys ≡ rows_bytes (Rows.invocation_rows file u)
          → take a out ++ (ys ++ drop (a + 16 + 16 * n - a) (drop a out)) ≡ rows_bytes (rows_called b (j + 1)) ++ drop (16 * (i + (1 + n) - b.invocations)) d
      call_more n a d out ys en ea e y =
          let k = length_invocation E c j in
          let m = g.inputs_are in
          let f = calls_from in
          let p : 16 * (i + (1 + n) - b.invocations) ≡ a + 16 + 16 * n = omega arith in
          rw (p, add-one j)
          (rows_more (rows_called b j) (invocation_rows E c j) d out ys a (a + 16 + 16 * n) (calls_long ∙ sym ea) (omega arith) e (y ∙ ap rows_bytes (use_rows h w t g)))
