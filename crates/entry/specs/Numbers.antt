-- Where in the list of its records each part of a design stands. "Records are numbered from 0 through the whole file." (01, Blocks)
-- Assumes nothing.
use Rattle.std.specs.Prelude.{ℕ, zero, suc, ◌+◌, ◌<◌, ◌≡◌, List, length, get_or, take}
use Rattle.timeline.specs.Design.{Design, class, delay, input_count, output_count, instance_count, invocation_count, argument_count, connection_count, input, output, made_of, call, argument, connection}
use Rattle.entry.specs.Records
use Rattle.entry.specs.Records.{Record, part, records}

module _ (D : Design) (c : ℕ) where
  -- After the records of the components before. Each group of records then begins where the one before it ends.
  unfoldable pub component_number : ℕ
  component_number = length (records (take c D))

  unfoldable pub input_number : ℕ → ℕ
  input_number i = component_number + 1 + i

  unfoldable pub output_number : ℕ → ℕ
  output_number o = input_number (input_count D c) + o

  unfoldable pub instance_number : ℕ → ℕ
  instance_number n = output_number (output_count D c) + n

  -- Each invocation is followed at once by its arguments.
  unfoldable pub invocation_number : ℕ → ℕ
  invocation_number zero = instance_number (instance_count D c)
  invocation_number (suc j) = invocation_number j + 1 + argument_count D c j

  unfoldable pub argument_number : (j i : ℕ) → ℕ
  argument_number j i = invocation_number j + 1 + i

  unfoldable pub connection_number : ℕ → ℕ
  connection_number o = invocation_number (invocation_count D c) + o

-- Record n of the list is x.
pub record At (rs : List Record) (n : ℕ) (x : Record) : Type 0 where
  pub below : n < length rs
  pub is : (r : Record) → get_or rs n r ≡ x

-- The records of component c of design D stand in the list at their numbers.
pub record Standing (D : Design) (c : ℕ) (rs : List Record) : Type 0 where
  pub component_at : At rs (component_number D c) (Records.component (class D c) (delay D c))
  pub input_at : (i : ℕ) → i < input_count D c → At rs (input_number D c i) (part (Records.input (input D c i)))
  pub output_at : (o : ℕ) → o < output_count D c → At rs (output_number D c o) (part (Records.output (output D c o)))
  pub instance_at : (n : ℕ) → n < instance_count D c → At rs (instance_number D c n) (part (Records.instance (made_of D c n)))
  pub invocation_at : (j : ℕ) → j < invocation_count D c → At rs (invocation_number D c j) (part (Records.invocation (call D c j)))
  pub argument_at : (j : ℕ) → j < invocation_count D c → (i : ℕ) → i < argument_count D c j → At rs (argument_number D c j i) (part (Records.argument (argument D c j i)))
  pub connection_at : (o : ℕ) → o < connection_count D c → At rs (connection_number D c o) (part (Records.connection (connection D c o)))
