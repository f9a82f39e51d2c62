-- The records of a design, in their order. (01, Records)
-- Assumes nothing.
use Rattle.std.specs.Prelude.{ℕ, List, [], ◌∷◌, ◌++◌, map}
use Rattle.timeline.specs.Design.{Design, Component, Call, Port, Source, Class}

-- A record of a component after its first one: a port, an instance, an invocation, an argument or a connection.
pub data Part : Type 0 where
  input output : Port → Part
  instance : ℕ → Part
  invocation : Call → Part
  argument connection : Source → Part

-- A record as it is read: a component record has the class and the delay; `wrong` is a record whose kind or a zero byte is wrong, or that says a number out of range.
pub data Record : Type 0 where
  wrong : Record
  component : Class → ℕ → Record
  part : Part → Record

-- "Then invocations, each followed at once by one argument for every input of the invoked component, in port order": the calls, and the arguments of each.
unfoldable pub invocations : List Call → List (List Source) → List Record
invocations [] lists = []
invocations (v ∷ calls) [] = part (invocation v) ∷ invocations calls []
invocations (v ∷ calls) (a ∷ lists) = part (invocation v) ∷ (map (λ s. part (argument s)) a ++ invocations calls lists)

-- "Its inputs, its outputs. [..] A built component goes on with instances, then invocations, [..] then one connection for every own output."
unfoldable pub parts : Component → List Record
parts C =
    map (λ p. part (input p)) C.inputs
    ++ (map (λ p. part (output p)) C.outputs
    ++ (map (λ n. part (instance n)) C.instances
    ++ (invocations C.calls C.arguments
    ++ map (λ s. part (connection s)) C.connections)))

-- "A component ends where the next component record stands or the file stops."
unfoldable pub records : Design → List Record
records [] = []
records (C ∷ D) = (component C.class C.delay ∷ parts C) ++ records D
