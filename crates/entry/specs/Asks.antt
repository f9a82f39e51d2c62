-- The rules, record by record: what document 01 asks of a record, and of the end of the list, after what the records before it have said.
-- One ordered table, `asks` below: each rule with the number of its refusal. The order decides which of several broken rules is told.
-- Assumes nothing.
use Rattle.std.specs.Prelude.{ℕ, suc, ◌+◌, ◌-◌, ◌^◌, ◌≤◌, ◌<◌, ◌≡◌, List, [], ◌∷◌, length, get_or}
use Rattle.answers.specs.Fault as Fault
use Rattle.timeline.specs.Design.{Component, Call, Port, Source, own, output_of, constant, built, no_port, no_call, no_component}
use Rattle.timeline.specs.Rules.{PortRange, SourceRange, Clear, Contains}
use Rattle.entry.specs.Records.{Part, input, output, instance, invocation, argument, connection, Record, wrong, component, part}
use Rattle.entry.specs.Entered.{Entered, nothing, after}

-- Rules, each with the number of its refusal.
abbrev pub Asks : Type 1
Asks = List (ℕ × Type 0)

-- 4: "kind, range or zero byte wrong in a record"
abbrev pub PartRange : Part → Type 0
PartRange (input p) = PortRange p
PartRange (output p) = PortRange p
PartRange (instance n) = n < 64
PartRange (invocation v) = (v.instance < 32) × (v.offset < 1024)
PartRange (argument s) = SourceRange s
PartRange (connection s) = SourceRange s

abbrev pub InRange : Record → Type 0
InRange wrong = ⊥
InRange (component k d) = (1 ≤ d) × (d ≤ 1024)
InRange (part x) = PartRange x

-- E: the components before. C: the component that is being entered, as far as the records before have said it.
module _ (E : List Component) (C : Component) where
  -- The component of instance n; invocation j, and the component that it invokes.
  abbrev pub made_of : ℕ → Component
  made_of n = get_or E (get_or C.instances n 0) no_component

  abbrev pub call : ℕ → Call
  call j = get_or C.calls j no_call

  abbrev pub invoked : ℕ → Component
  invoked j = made_of (call j).instance

  -- How long a call occupies its instance, and what invocation j promises at output o.
  abbrev pub takes : Call → ℕ
  takes v = (made_of v.instance).delay

  abbrev pub gives : (j o : ℕ) → Port
  gives j o = get_or (invoked j).outputs o no_port

  -- How many arguments invocation j has by now.
  abbrev pub argument_count : ℕ → ℕ
  argument_count j = length (get_or C.arguments j [])

  -- The last invocation, the input of it that lacks an argument, and the own output that lacks a connection.
  abbrev pub last : ℕ
  last = length C.calls - 1

  abbrev pub next_input : Port
  next_input = get_or (invoked last).inputs (argument_count last) no_port

  abbrev pub next_output : Port
  next_output = get_or C.outputs (length C.connections) no_port

  -- 5: "one argument for every input of the invoked component", "one connection for every own output"
  abbrev pub AllArguments : Type 0
  AllArguments = (j : ℕ) → j < length C.calls → argument_count j ≡ length (invoked j).inputs

  abbrev pub AllConnections : Type 0
  AllConnections = C.class ≡ built → length C.connections ≡ length C.outputs

  abbrev pub Complete : Type 0
  Complete = AllArguments × AllConnections

  -- 5: "record not allowed at this place". "A component record, its inputs, its outputs. A leaf ends there."
  abbrev pub Place : Part → Type 0
  Place (input p) = (C.outputs ≡ []) × (C.instances ≡ []) × (C.calls ≡ []) × (C.connections ≡ [])
  Place (output p) = (C.instances ≡ []) × (C.calls ≡ []) × (C.connections ≡ [])
  Place (instance n) = (C.class ≡ built) × (C.calls ≡ []) × (C.connections ≡ [])
  Place (invocation v) = (C.class ≡ built) × AllArguments × (C.connections ≡ [])
  Place (argument s) = (C.class ≡ built) × (0 < length C.calls) × (argument_count last < length (invoked last).inputs) × (C.connections ≡ [])
  Place (connection s) = (C.class ≡ built) × AllArguments × (length C.connections < length C.outputs)

  -- 7: "own input, output or invocation absent; argument naming its own or a later invocation". A source may name the invocations before number n.
  abbrev pub There : (n : ℕ) → Source → Type 0
  There n (own i) = i < length C.inputs
  There n (output_of j o) = (j < n) × (o < length (invoked j).outputs)
  There n (constant v) = Unit

  -- 8: "Source and reader are equally wide; a constant is below 2 to the width." The reader is port q.
  abbrev pub Wide : Source → Port → Type 0
  Wide (own i) q = (get_or C.inputs i no_port).width ≡ q.width
  Wide (output_of j o) q = (gives j o).width ≡ q.width
  Wide (constant v) q = v < 2 ^ q.width

  -- 9: "e−s ≤ its own component's D"
  abbrev pub Short : Port → Type 0
  Short p = p.end ≤ p.start + C.delay

  -- 10: "Two invocations of one instance stand at least d cycles apart."
  abbrev pub Apart : Call → Call → Type 0
  Apart v w = v.instance ≡ w.instance → Clear v.offset (takes v) w.offset (takes w)

  -- 11: "For one instance, greatest offset − least offset + d ≤ D": from the offset of v to the end of w.
  abbrev pub Spans : Call → Call → Type 0
  Spans v w = v.instance ≡ w.instance → w.offset + takes w ≤ v.offset + C.delay

  -- 12: "The source's interval contains the required one." Required: port q, its event k cycles after the component's.
  abbrev pub Ready : Source → Port → ℕ → Type 0
  Ready (own i) q k = Contains (get_or C.inputs i no_port) 0 q k
  Ready (output_of j o) q k = Contains (gives j o) (call j).offset q k
  Ready (constant v) q k = Unit

  -- The table, for a part in range. "One of a kind too many" (6) is said of ports, instances and invocations: an argument or a connection too many has no place.
  abbrev pub part_asks : Part → Asks
  part_asks (input p) = (Fault.Place, Place (input p)) ∷ (Fault.TooMany, length C.inputs < 16) ∷ (Fault.Interval, Short p) ∷ []
  part_asks (output p) = (Fault.Place, Place (output p)) ∷ (Fault.TooMany, length C.outputs < 16) ∷ (Fault.Interval, Short p) ∷ []
  part_asks (instance n) = (Fault.Place, Place (instance n)) ∷ (Fault.TooMany, length C.instances < 32) ∷ (Fault.Reference, n < length E) ∷ []
  part_asks (invocation v) =
      (Fault.Place, Place (invocation v))
      ∷ (Fault.TooMany, length C.calls < 64)
      ∷ (Fault.Reference, v.instance < length C.instances)
      ∷ (Fault.Spacing, ((j : ℕ) → j < length C.calls → Apart (call j) v))
      ∷ (Fault.Span, Spans v v × ((j : ℕ) → j < length C.calls → Spans (call j) v × Spans v (call j)))
      ∷ []
  part_asks (argument s) =
      (Fault.Place, Place (argument s)) ∷ (Fault.Reference, There last s) ∷ (Fault.Width, Wide s next_input) ∷ (Fault.Reading, Ready s next_input (call last).offset) ∷ []
  part_asks (connection s) =
      (Fault.Place, Place (connection s)) ∷ (Fault.Reference, There (length C.calls) s) ∷ (Fault.Width, Wide s next_output) ∷ (Fault.Reading, Ready s next_output 0) ∷ []

-- The table, for a record in range. The first record is a component record; "at most 64 components", of which E and C are entered.
abbrev pub further : Entered → Record → Asks
further nothing wrong = []
further nothing (component k d) = []
further nothing (part x) = (Fault.Place, ⊥) ∷ []
further (after E C) wrong = []
further (after E C) (component k d) = (Fault.Place, Complete E C) ∷ (Fault.TooMany, suc (length E) < 64) ∷ []
further (after E C) (part x) = part_asks E C x

-- What is asked of a record: first its ranges, wherever it stands.
abbrev pub asks : Entered → Record → Asks
asks e r = (Fault.Record, InRange r) ∷ further e r

-- What is asked where the list ends. 5: "file ends in an incomplete component"
abbrev pub ending : Entered → Asks
ending nothing = (Fault.Place, ⊥) ∷ []
ending (after E C) = (Fault.Place, Complete E C) ∷ []
