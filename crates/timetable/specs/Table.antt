-- The timetable of a built component. (01, Lowering)
-- Assumes nothing.
use Rattle.std.specs.Prelude.{ℕ, ◌+◌, ◌<◌, ◌≡◌}
use Rattle.timeline.specs.Design.{Design, Source, input_count, output_count, invocation_count, input, instance, invoked, offset, argument, connection}
use Rattle.timeline.specs.Rules.{Holds}
use Rattle.entry.specs.Numbers.{argument_number, connection_number}

module _ (D : Design) (c : ℕ) where
  -- The starts of component c: any set S of cycles.
  module _ (S : ℕ → Type 0) where
    -- "For a start at cycle c, an invocation at offset k and its input [s, e), that instance's input is driven by that invocation's argument in cycles c+k+s to c+k+e−1, and in no other cycle on account of this start and invocation."
    -- In cycle x input i of instance n is driven by source s, the argument in record r, on account of invocation j and start t.
    pub record TableDrives (x n i : ℕ) (s : Source) (r j t : ℕ) : Type 0 where
      pub started : S t
      pub invocation_there : j < invocation_count D c
      pub instance_is : n ≡ instance D c j
      pub input_there : i < input_count D (invoked D c j)
      pub during : Holds (input D (invoked D c j) i) (t + offset D c j) x
      pub source_is : s ≡ argument D c j i
      pub record_is : r ≡ argument_number D c j i

    -- In cycle x instance n is started by invocation j, on account of start t.
    pub record TableStarts (x n j t : ℕ) : Type 0 where
      pub started : S t
      pub invocation_there : j < invocation_count D c
      pub instance_is : n ≡ instance D c j
      pub when : t + offset D c j ≡ x

  -- Own output o has source s, the connection in record r, in every cycle.
  pub record TableConnects (o : ℕ) (s : Source) (r : ℕ) : Type 0 where
    pub output_there : o < output_count D c
    pub source_is : s ≡ connection D c o
    pub record_is : r ≡ connection_number D c o
