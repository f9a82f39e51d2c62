-- Which place of the theory the declared place is: the same, field by field.
-- Assumes nothing.
use Rattle.std.specs.Prelude.{false}
use Rattle.reading.specs.Place as Reading
use Rattle.order.specs.declared.Place.{Place}

abbrev pub seen : Place → Reading.Place
seen s =
    record {
      built = s.built;
      inputs = s.inputs;
      outputs = s.outputs;
      instances = s.instances;
      invocations = s.invocations;
      connections = s.connections;
      due = s.due;
    }

-- Before the first record: nothing but a component may stand there.
abbrev pub closed : Reading.Place
closed = record { built = false; inputs = 0; outputs = 0; instances = 0; invocations = 0; connections = 1; due = 0 }
