-- The numbers that follow from a record's place: components over the file; ports, instances, invocations and connections within
-- their component; arguments within their invocation. (01, Records; docs/TEXT.md)
-- Assumes nothing.
use Rattle.std.specs.Prelude.{ℕ, ◌+◌, cond, ltb}
use Rattle.records.specs.declared.Record.{Record}
use Rattle.places.specs.declared.Place.{Place}

-- No list has so many records that this stops at its end.
abbrev pub more : ℕ → ℕ
more n = cond (ltb n 65535) (n + 1) n

abbrev pub at_first : Place
at_first = record { components = 0; inputs = 0; outputs = 0; instances = 0; invocations = 0; arguments = 0; connections = 0 }

-- The number of a record at this place.
abbrev pub number_of : Place → Record → ℕ
number_of p (Record.Component k d) = p.components
number_of p (Record.Input q) = p.inputs
number_of p (Record.Output q) = p.outputs
number_of p (Record.Instance n) = p.instances
number_of p (Record.Invocation n k) = p.invocations
number_of p (Record.Argument a) = p.arguments
number_of p (Record.Connection s) = p.connections
number_of p Record.Wrong = 0

-- The place behind a record; what is no record is counted nowhere.
abbrev pub after : Place → Record → Place
after p (Record.Component k d) =
    record { components = more p.components; inputs = 0; outputs = 0; instances = 0; invocations = 0; arguments = 0; connections = 0 }
after p (Record.Input q) =
    record { components = p.components; inputs = more p.inputs; outputs = p.outputs; instances = p.instances; invocations = p.invocations; arguments = p.arguments; connections = p.connections }
after p (Record.Output q) =
    record { components = p.components; inputs = p.inputs; outputs = more p.outputs; instances = p.instances; invocations = p.invocations; arguments = p.arguments; connections = p.connections }
after p (Record.Instance n) =
    record { components = p.components; inputs = p.inputs; outputs = p.outputs; instances = more p.instances; invocations = p.invocations; arguments = p.arguments; connections = p.connections }
after p (Record.Invocation n k) =
    record { components = p.components; inputs = p.inputs; outputs = p.outputs; instances = p.instances; invocations = more p.invocations; arguments = 0; connections = p.connections }
after p (Record.Argument a) =
    record { components = p.components; inputs = p.inputs; outputs = p.outputs; instances = p.instances; invocations = p.invocations; arguments = more p.arguments; connections = p.connections }
after p (Record.Connection s) =
    record { components = p.components; inputs = p.inputs; outputs = p.outputs; instances = p.instances; invocations = p.invocations; arguments = p.arguments; connections = more p.connections }
after p Record.Wrong = p
