-- The reader's place in the order of the records: the class, how many of each kind have been read, and how many arguments are due.
-- "The reader's place in this order goes from one state to the next with each record." (01, Records)
-- Assumes nothing.
use Rattle.std.specs.Prelude.{ℕ, ◌+◌, ◌-◌, Bool, ◌&&◌, ◌||◌, not, eqb, ltb}
use Rattle.entry.specs.Records.{Part, input, output, instance, invocation, argument, connection}

pub record Place : Type 0 where
  pub built : Bool
  pub inputs : ℕ
  pub outputs : ℕ
  pub instances : ℕ
  pub invocations : ℕ
  pub connections : ℕ
  pub due : ℕ

-- After a component record.
abbrev pub begun : Bool → Place
begun b = record { built = b; inputs = 0; outputs = 0; instances = 0; invocations = 0; connections = 0; due = 0 }

module _ (s : Place) where
  -- Whether a record may stand here.
  abbrev pub may : Part → Bool
  may (input p) = eqb s.outputs 0 && (eqb s.instances 0 && (eqb s.invocations 0 && eqb s.connections 0))
  may (output p) = eqb s.instances 0 && (eqb s.invocations 0 && eqb s.connections 0)
  may (instance n) = s.built && (eqb s.invocations 0 && eqb s.connections 0)
  may (invocation v) = s.built && (eqb s.due 0 && eqb s.connections 0)
  may (argument x) = s.built && ltb 0 s.due
  may (connection x) = s.built && (eqb s.due 0 && ltb s.connections s.outputs)

  -- Whether the component may end here.
  abbrev pub may_end : Bool
  may_end = eqb s.due 0 && (not s.built || eqb s.connections s.outputs)

  -- The next place; an invocation makes m arguments due, one for every input of the invoked component.
  abbrev pub moved : Part → (m : ℕ) → Place
  moved (input p) m = record { built = s.built; inputs = s.inputs + 1; outputs = s.outputs; instances = s.instances; invocations = s.invocations; connections = s.connections; due = s.due }
  moved (output p) m = record { built = s.built; inputs = s.inputs; outputs = s.outputs + 1; instances = s.instances; invocations = s.invocations; connections = s.connections; due = s.due }
  moved (instance n) m = record { built = s.built; inputs = s.inputs; outputs = s.outputs; instances = s.instances + 1; invocations = s.invocations; connections = s.connections; due = s.due }
  moved (invocation v) m = record { built = s.built; inputs = s.inputs; outputs = s.outputs; instances = s.instances; invocations = s.invocations + 1; connections = s.connections; due = m }
  moved (argument x) m = record { built = s.built; inputs = s.inputs; outputs = s.outputs; instances = s.instances; invocations = s.invocations; connections = s.connections; due = s.due - 1 }
  moved (connection x) m = record { built = s.built; inputs = s.inputs; outputs = s.outputs; instances = s.instances; invocations = s.invocations; connections = s.connections + 1; due = s.due }
