-- The rows of a lowered component. (01, Lowering)
-- Assumes nothing.
use Rattle.std.specs.Prelude.{ℕ, ◌+◌, ◌-◌, List, [], ◌∷◌, ◌++◌}
use Rattle.timeline.specs.Design.{Design, delay, input_count, output_count, invocation_count, input, instance, invoked, offset}
use Rattle.timeline.specs.Flat.{join_below}
use Rattle.entry.specs.Numbers.{argument_number, connection_number}
use Rattle.timetable.specs.Lists.{list_below}
use Rattle.timetable.specs.States.{states}

-- The component's delay, and its register's states; an invocation, its instance, and the state that starts it;
-- the guard of an invocation's input, from its first state to its last, and its argument's record; an own output, and its connection's record.
pub data Row : Type 0 where
  register : (delay states : ℕ) → Row
  go : (invocation instance state : ℕ) → Row
  guard : (invocation port first last argument : ℕ) → Row
  out : (port connection : ℕ) → Row

-- "Rows are 16 bytes, eight 16-bit numbers, zero filled: (1, D, n); [..] (2, invocation, instance, k), [..] (3, invocation, port, k+s, k+e−1, argument's record number); [..] (4, port, connection's record number)."
unfoldable pub numbers : Row → List ℕ
numbers (register d n) = 1 ∷ d ∷ n ∷ 0 ∷ 0 ∷ 0 ∷ 0 ∷ 0 ∷ []
numbers (go j n k) = 2 ∷ j ∷ n ∷ k ∷ 0 ∷ 0 ∷ 0 ∷ 0 ∷ []
numbers (guard j i f l r) = 3 ∷ j ∷ i ∷ f ∷ l ∷ r ∷ 0 ∷ 0 ∷ []
numbers (out o r) = 4 ∷ o ∷ r ∷ 0 ∷ 0 ∷ 0 ∷ 0 ∷ 0 ∷ []

module _ (D : Design) (c : ℕ) where
  -- The states of the guard of input i of invocation j: k+s to k+e−1. "Its own half-open intervals decide, so the last state is e−1."
  unfoldable pub first_state : (j i : ℕ) → ℕ
  first_state j i = offset D c j + (input D (invoked D c j) i).start

  unfoldable pub last_state : (j i : ℕ) → ℕ
  last_state j i = (offset D c j + (input D (invoked D c j) i).end) - 1

  -- The rows one by one: of the component, of invocation j, of its input i, of own output o.
  unfoldable pub register_row : Row
  register_row = register (delay D c) (states D c)

  unfoldable pub go_row : ℕ → Row
  go_row j = go j (instance D c j) (offset D c j)

  unfoldable pub guard_row : (j i : ℕ) → Row
  guard_row j i = guard j i (first_state j i) (last_state j i) (argument_number D c j i)

  unfoldable pub out_row : ℕ → Row
  out_row o = out o (connection_number D c o)

  -- "For each invocation (2, ..), then for each input (3, ..)."
  unfoldable pub invocation_rows : ℕ → List Row
  invocation_rows j = go_row j ∷ list_below (input_count D (invoked D c j)) (guard_row j)

  -- The rows before those of invocation j.
  unfoldable pub rows_before : ℕ → List Row
  rows_before j = register_row ∷ join_below j invocation_rows

  -- "Last, for each own output (4, ..)."
  unfoldable pub rows : List Row
  rows = rows_before (invocation_count D c) ++ list_below (output_count D c) out_row
