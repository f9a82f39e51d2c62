-- Which rows a component has, how many, and where in the list each of them stands.
-- Assumes nothing.
use Rattle.std.specs.Prelude.{ℕ, zero, suc, ◌+◌, ◌≤◌, ◌<◌, ◌≡◌}
use Rattle.timeline.specs.Design.{Design, input_count, output_count, invocation_count, invoked}
use Rattle.timetable.specs.Rows.{Row, register, go, guard, out, register_row, go_row, guard_row, out_row}

module _ (D : Design) (c : ℕ) where
  -- The row is one of component c.
  abbrev pub RowOf : Row → Type 0
  RowOf (register d n) = register d n ≡ register_row D c
  RowOf (go j n k) = (j < invocation_count D c) × (go j n k ≡ go_row D c j)
  RowOf (guard j i f l r) = (j < invocation_count D c) × (i < input_count D (invoked D c j)) × (guard j i f l r ≡ guard_row D c j i)
  RowOf (out o r) = (o < output_count D c) × (out o r ≡ out_row D c o)

  -- Rows are numbered from 0. After the first one, each invocation has a row of its own and one for each input; then come the outputs.
  unfoldable pub go_place : ℕ → ℕ
  go_place zero = 1
  go_place (suc j) = go_place j + 1 + input_count D (invoked D c j)

  unfoldable pub guard_place : (j i : ℕ) → ℕ
  guard_place j i = go_place j + 1 + i

  unfoldable pub out_place : ℕ → ℕ
  out_place o = go_place (invocation_count D c) + o

  unfoldable pub row_count : ℕ
  row_count = out_place (output_count D c)

  abbrev pub place : Row → ℕ
  place (register d n) = 0
  place (go j n k) = go_place j
  place (guard j i f l r) = guard_place j i
  place (out o r) = out_place o

-- The states that the row names are among the n, and its guard has some.
abbrev pub Within : ℕ → Row → Type 0
Within n (register d m) = m ≡ n
Within n (go j m k) = k < n
Within n (guard j i f l r) = (f ≤ l) × (l < n)
Within n (out o r) = Unit
