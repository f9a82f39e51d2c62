-- The number of states of a component's pulse register: n of document 01. (01, Lowering)
-- Nothing else says what n is; `Covers` is all that is used of it.
-- Assumes nothing.
use Rattle.std.specs.Prelude.{ℕ, ◌+◌, ◌≤◌, ◌<◌, List, ◌∷◌, ◌++◌}
use Rattle.timeline.specs.Design.{Design, input_count, output_count, invocation_count, input, output, invoked, offset, gives}
use Rattle.timeline.specs.Flat.{join_below}
use Rattle.timetable.specs.Lists.{list_below, greatest}

module _ (D : Design) (c : ℕ) where
  -- "every own port's end"
  unfoldable pub own_ends : List ℕ
  own_ends = list_below (input_count D c) (λ i. (input D c i).end) ++ list_below (output_count D c) (λ o. (output D c o).end)

  -- "every k+1, and every k+e over all ports of its invocations": those of invocation j
  unfoldable pub invocation_ends : ℕ → List ℕ
  invocation_ends j =
      (offset D c j + 1)
      ∷ (list_below (input_count D (invoked D c j)) (λ i. offset D c j + (input D (invoked D c j) i).end)
      ++ list_below (output_count D (invoked D c j)) (λ o. offset D c j + (gives D c j o).end))

  -- "n is the greatest of 1, every own port's end, every k+1, and every k+e over all ports of its invocations."
  unfoldable pub states : ℕ
  states = greatest (1 ∷ (own_ends ++ join_below (invocation_count D c) invocation_ends))

  -- Each of these is at most m. n is the least such m.
  pub record Covers (m : ℕ) : Type 0 where
    pub one : 1 ≤ m
    pub own_inputs : (i : ℕ) → i < input_count D c → (input D c i).end ≤ m
    pub own_outputs : (o : ℕ) → o < output_count D c → (output D c o).end ≤ m
    pub starts : (j : ℕ) → j < invocation_count D c → offset D c j + 1 ≤ m
    pub inputs : (j : ℕ) → j < invocation_count D c → (i : ℕ) → i < input_count D (invoked D c j) → offset D c j + (input D (invoked D c j) i).end ≤ m
    pub outputs : (j : ℕ) → j < invocation_count D c → (o : ℕ) → o < output_count D (invoked D c j) → offset D c j + (gives D c j o).end ≤ m
