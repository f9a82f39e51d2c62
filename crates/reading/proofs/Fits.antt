-- The reader fits what has been entered: its numbers are those of the component that is being entered and of the components before.
-- Assumes nothing.
use Rattle.std.specs.Prelude.{ℕ, suc, ◌+◌, ◌<◌, ◌≡◌, List, length, get_or}
use Rattle.timeline.specs.Design.{Component, no_component}
use Rattle.entry.specs.Records.{records}
use Rattle.entry.specs.Numbers.{component_number}
use Rattle.entry.specs.Asks.{made_of, call, invoked, argument_count}
use Rattle.reading.specs.Reader.{Reader}
use Rattle.reading.specs.Table.{RowOf}
use Rattle.reading.proofs.Placed.{Stands}

module _ (E : List Component) (C : Component) where
  -- The number of the component that invocation j invokes, and that of its first input's record.
  abbrev pub invoked_number : ℕ → ℕ
  invoked_number j = get_or C.instances (call E C j).instance 0

  abbrev pub inputs_from : ℕ → ℕ
  inputs_from j = component_number E (invoked_number j) + 1

  module _ (r : Reader) where
    pub record CallOf (j : ℕ) : Type 0 where
      pub instance : r.instance j ≡ (call E C j).instance
      pub offset : r.offset j ≡ (call E C j).offset
      pub outputs : r.outputs j ≡ length (invoked E C j).outputs
      pub output_record : r.output_record j ≡ inputs_from j + length (invoked E C j).inputs

    -- Where the argument that is due belongs.
    pub record DueOf (j : ℕ) : Type 0 where
      pub input_record : r.input_record ≡ inputs_from j + argument_count E C j
      pub offset : r.due_offset ≡ (call E C j).offset

    pub record Fits : Type 0 where
      pub stands : Stands E C r.place
      pub delay : r.delay ≡ C.delay
      pub first : r.first ≡ length (records E)
      pub number : r.number ≡ length E
      pub rows : (c : ℕ) → c < length E → RowOf (get_or E c no_component) (component_number E c) (r.row c)
      pub held : (n : ℕ) → n < length C.instances → RowOf (made_of E C n) (component_number E (get_or C.instances n 0)) (r.held n)
      pub calls : (j : ℕ) → j < length C.calls → CallOf j
      pub due : (j : ℕ) → suc j ≡ length C.calls → 0 < r.place.due → DueOf j
