-- The three parts that make all rows: the first row, the invocations, the outputs.
-- Assumes nothing.
use Prim.Native.Nat.{ℕ, ◌+◌, ◌-◌, ◌*◌, ◌≤◌}
use mathlib.Core.Path.{◌≡◌, sym, ap, ◌∙◌}
use mathlib.Core.List.{List, ◌++◌, append_assoc}
use native.Mathlib.Omega.{arith}
use lib.ListN.{length}
use Rattle.timeline.specs.Design.{Design, delay, output_count}
use Rattle.entry.specs.Numbers.{invocation_number, connection_number}
use Rattle.timetable.specs.Lists.{list_below}
use Rattle.timetable.specs.States.{states}
use Rattle.timetable.specs.Rows.{register, register_row, out_row, rows_before}
use Rattle.timetable.specs.Bytes.{row_bytes, rows_bytes}
use Rattle.timetable.proofs.Laws.{length_rows, rows_last, bytes_append, length_bytes}
use Rattle.rows.specs.Rows.{output_rows}
use Rattle.control.specs.declared.Built.{Built}
use Rattle.control.specs.Stands.{design, called, rows_called, all_rows, Stands}
use Rattle.control.proofs.Places.{from_first, row_total}
use Rattle.control.proofs.Lists.{list_same}

module _ {b : Built} (h : Stands b) where
  abbrev E : Design
  E = design b

  abbrev c : ℕ
  c = b.number

  -- As many rows as records from the first invocation on, and one.
  pub rows_total : length (all_rows b) ≡ 1 + (b.connections - b.invocations) + b.row.outputs
  unfolding connection_number
  rows_total =
      let a = length_rows E c in
      let t = row_total E c h.opened.lawful h.there in
      let k = from_first E c (called b) in
      let e = h.invocations_at in
      let f = h.connections_at in
      let o = h.outputs_are in
      omega arith

  pub connections_after : b.invocations ≤ b.connections
  unfolding connection_number
  connections_after =
      let k = from_first E c (called b) in
      let e = h.invocations_at in
      let f = h.connections_at in
      omega arith

  outputs_are : output_rows b.row.outputs b.connections ≡ list_below (output_count E c) (out_row E c)
  unfolding output_rows out_row connection_number
  outputs_are = rw (h.outputs_are, h.connections_at) (list_same (output_count E c) _ _ (λ o l. let e : invocation_number E c (called b) + 0 + o ≡ invocation_number E c (called b) + o = omega arith in rw e))

  pub parts_are : row_bytes (register b.row.delay (states E c)) ++ (rows_bytes (rows_called b (called b)) ++ rows_bytes (output_rows b.row.outputs b.connections)) ≡ rows_bytes (all_rows b)
  unfolding rows_bytes rows_before register_row
  parts_are =
      rw (rows_last E c, bytes_append (rows_before E c (called b)) (list_below (output_count E c) (out_row E c)), outputs_are, h.delay_is)
      (sym (append_assoc (row_bytes (register (delay E c) (states E c))) (rows_bytes (rows_called b (called b))) (rows_bytes (list_below (output_count E c) (out_row E c)))))

  -- Bytes that hold all rows are as many as were lent for them.
  pub all_long : (d out : List ℕ) → length d ≡ 16 * length (all_rows b) → out ≡ rows_bytes (all_rows b) → length out ≡ length d
  all_long d out room e = ap length e ∙ length_bytes (all_rows b) ∙ sym room
