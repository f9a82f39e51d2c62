-- What a list of records says: the design that grows as they are entered one by one, whether or not they keep the rules.
-- Assumes nothing.
use Rattle.std.specs.Prelude.{ℕ, List, [], ◌∷◌}
use Rattle.timeline.specs.Design.{Design, Component, Class}
use Rattle.entry.specs.Lists.{add_last, change_last}
use Rattle.entry.specs.Records.{Part, input, output, instance, invocation, argument, connection, Record, wrong, component, part}

-- Nothing yet; or the components before, and the one that is being entered.
pub data Entered : Type 0 where
  nothing : Entered
  after : List Component → Component → Entered

-- A component record begins a component.
abbrev pub new : Class → ℕ → Component
new k d = record { class = k; delay = d; inputs = []; outputs = []; instances = []; calls = []; arguments = []; connections = [] }

-- What each other record adds to the component that is being entered. An argument belongs to the last invocation.
abbrev pub add : Part → Component → Component
add (input p) C = record { class = C.class; delay = C.delay; inputs = add_last C.inputs p; outputs = C.outputs; instances = C.instances; calls = C.calls; arguments = C.arguments; connections = C.connections }
add (output p) C = record { class = C.class; delay = C.delay; inputs = C.inputs; outputs = add_last C.outputs p; instances = C.instances; calls = C.calls; arguments = C.arguments; connections = C.connections }
add (instance n) C = record { class = C.class; delay = C.delay; inputs = C.inputs; outputs = C.outputs; instances = add_last C.instances n; calls = C.calls; arguments = C.arguments; connections = C.connections }
add (invocation v) C = record { class = C.class; delay = C.delay; inputs = C.inputs; outputs = C.outputs; instances = C.instances; calls = add_last C.calls v; arguments = add_last C.arguments []; connections = C.connections }
add (argument s) C = record { class = C.class; delay = C.delay; inputs = C.inputs; outputs = C.outputs; instances = C.instances; calls = C.calls; arguments = change_last (λ a. add_last a s) C.arguments; connections = C.connections }
add (connection s) C = record { class = C.class; delay = C.delay; inputs = C.inputs; outputs = C.outputs; instances = C.instances; calls = C.calls; arguments = C.arguments; connections = add_last C.connections s }

-- A wrong record says nothing, and neither does a part before the first component record.
abbrev pub enter : Entered → Record → Entered
enter nothing wrong = nothing
enter nothing (component k d) = after [] (new k d)
enter nothing (part x) = nothing
enter (after E C) wrong = after E C
enter (after E C) (component k d) = after (add_last E C) (new k d)
enter (after E C) (part x) = after E (add x C)

unfoldable pub enter_all : Entered → List Record → Entered
enter_all e [] = e
enter_all e (r ∷ rs) = enter_all (enter e r) rs

abbrev pub said : Entered → Design
said nothing = []
said (after E C) = add_last E C

-- The design that a list of records says.
unfoldable pub design : List Record → Design
design rs = said (enter_all nothing rs)
