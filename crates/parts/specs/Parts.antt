-- A list of records, each as its sixteen bytes, and the parts of a component in it, whatever the verdict on it.
-- Assumes nothing.
use Rattle.std.specs.Prelude.{[], ◌∷◌, zero, suc, cond, ℕ, List, Option, Some, None, Bool, true, false, ◌/◌, ◌+◌, length, count_by, position, take, slice_get, drop, min}
use Rattle.std.specs.Option.{option_map, option_and_then, unwrap_or}
use Rattle.timeline.specs.Design as Design
use Rattle.std.specs.Simd.{first_chunks}
use Rattle.entry.specs.Records as Records
use Rattle.records.specs.Decoded.{decoded}
use Rattle.parts.specs.declared.kind.Kind.{Kind}

-- The kind of a record; none of a wrong one.
abbrev pub kind : Records.Record → Option Kind
kind Records.wrong = None
kind (Records.component k d) = Some Kind.Component
kind (Records.part (Records.input p)) = Some Kind.Input
kind (Records.part (Records.output p)) = Some Kind.Output
kind (Records.part (Records.instance n)) = Some Kind.Instance
kind (Records.part (Records.invocation v)) = Some Kind.Invocation
kind (Records.part (Records.argument s)) = Some Kind.Argument
kind (Records.part (Records.connection s)) = Some Kind.Connection

-- Whether two kinds are the same.
abbrev pub same : Kind → Kind → Bool
same Kind.Component Kind.Component = true
same Kind.Input Kind.Input = true
same Kind.Output Kind.Output = true
same Kind.Instance Kind.Instance = true
same Kind.Invocation Kind.Invocation = true
same Kind.Argument Kind.Argument = true
same Kind.Connection Kind.Connection = true
same k l = false

abbrev pub is_some_of : Kind → Option Kind → Bool
is_some_of k None = false
is_some_of k (Some l) = same l k

-- Whether sixteen bytes are a record of this kind.
unfoldable pub is_of : Kind → List ℕ → Bool
is_of k bytes = is_some_of k (kind (decoded bytes))

-- How many records of a kind there are.
abbrev pub count : Kind → List (List ℕ) → ℕ
count k records = count_by (is_of k) records

-- In records of which the first stands at i: where the n-th of a kind stands.
unfoldable pub nth_from : Kind → (n i : ℕ) → List (List ℕ) → Option ℕ
nth_from k n i [] = None
nth_from k zero i (x ∷ xs) = cond (is_of k x) (Some i) (nth_from k zero (i + 1) xs)
nth_from k (suc n) i (x ∷ xs) = cond (is_of k x) (nth_from k n (i + 1) xs) (nth_from k (suc n) (i + 1) xs)

-- Where the n-th record of a kind stands.
abbrev pub nth : Kind → ℕ → List (List ℕ) → Option ℕ
nth k n records = nth_from k n 0 records

-- The whole records in a list of bytes.
abbrev pub whole : List ℕ → List (List ℕ)
whole bytes = first_chunks 16 (length bytes / 16) bytes

-- At most 3,968 of them: what stands behind these is not looked at.
abbrev pub records : List ℕ → List (List ℕ)
records bytes = take (min (length (whole bytes)) 3968) (whole bytes)

-- Record i, if the list goes so far.
abbrev pub record_at : List (List ℕ) → ℕ → Option Records.Record
record_at list i = option_map decoded (slice_get list i)

-- A component of a list: where its own record stands, its class and its delay, and the records behind that one, as far as the next component.
pub record Component : Type 0 where
  pub list : List (List ℕ)
  pub first : ℕ
  pub class : Design.Class
  pub delay : ℕ
  pub body : List (List ℕ)

abbrev pub up_to : Option ℕ → List (List ℕ) → List (List ℕ)
up_to None list = list
up_to (Some n) list = take n list

-- The records behind record i, as far as the next component.
abbrev pub body_at : List (List ℕ) → ℕ → List (List ℕ)
body_at list i = up_to (position (is_of Kind.Component) (drop (i + 1) list)) (drop (i + 1) list)

abbrev pub component_from : List (List ℕ) → ℕ → Option Records.Record → Option Component
component_from list i None = None
component_from list i (Some Records.wrong) = None
component_from list i (Some (Records.component k d)) = Some (record { list = list; first = i; class = k; delay = d; body = body_at list i })
component_from list i (Some (Records.part p)) = None

-- The component whose own record is record i.
unfoldable pub component_at : List (List ℕ) → ℕ → Option Component
component_at list i = component_from list i (record_at list i)

-- Component c, counted over the list.
unfoldable pub component : List (List ℕ) → ℕ → Option Component
component list c = option_and_then (component_at list) (nth Kind.Component c list)

-- Where in the list the n-th record of a kind of a component stands.
abbrev pub place : Component → Kind → ℕ → Option ℕ
place C k n = option_map (λ i. C.first + 1 + i) (nth k n C.body)

abbrev pub record_of : Component → Kind → ℕ → Option Records.Record
record_of C k n = option_and_then (record_at C.list) (place C k n)

abbrev pub port_in : Records.Record → Option Design.Port
port_in (Records.part (Records.input p)) = Some p
port_in (Records.part (Records.output p)) = Some p
port_in x = None

-- The n-th input or output.
unfoldable pub port : Component → Kind → ℕ → Option Design.Port
port C k n = option_and_then port_in (record_of C k n)

abbrev pub instance_in : Records.Record → Option ℕ
instance_in (Records.part (Records.instance c)) = Some c
instance_in x = None

-- The component that the n-th instance names.
unfoldable pub named : Component → ℕ → Option Component
named C n = option_and_then (component C.list) (option_and_then instance_in (record_of C Kind.Instance n))

-- An invocation: its instance, its offset, and where its record stands.
pub record Invocation : Type 0 where
  pub instance : ℕ
  pub offset : ℕ
  pub place : ℕ

abbrev pub invocation_from : ℕ → Option Records.Record → Option Invocation
invocation_from r (Some (Records.part (Records.invocation v))) = Some (record { instance = v.instance; offset = v.offset; place = r })
invocation_from r x = None

-- The n-th invocation.
unfoldable pub invocation : Component → ℕ → Option Invocation
invocation C n = option_and_then (λ r. invocation_from r (record_at C.list r)) (place C Kind.Invocation n)

-- The cycles from a start of the component up to an end.
pub record Cycles : Type 0 where
  pub start : ℕ
  pub end : ℕ

-- "An own input has its declared interval; an invocation's output the shifted one."
abbrev pub shifted : ℕ → Design.Port → Cycles
shifted offset p = record { start = p.start + offset; end = p.end + offset }

abbrev pub never : Cycles
never = record { start = 0; end = 0 }

-- "A constant is always available."
abbrev pub always : Cycles
always = record { start = 0; end = 65535 }

-- When output o of an invocation is there.
abbrev pub made_by : Component → ℕ → Invocation → Option Cycles
made_by C o v = option_and_then (λ made. option_map (shifted v.offset) (port made Kind.Output o)) (named C v.instance)

unfoldable pub declared : Component → Design.Source → Option Cycles
declared C (Design.own i) = option_map (shifted 0) (port C Kind.Input i)
declared C (Design.output_of j o) = option_and_then (made_by C o) (invocation C j)
declared C (Design.constant v) = Some always

-- When a source is there: never, where it is absent.
abbrev pub available : Component → Design.Source → Cycles
available C s = unwrap_or (declared C s) never

abbrev pub read_by : Component → Option Records.Record → Cycles
read_by C (Some (Records.part (Records.argument s))) = available C s
read_by C (Some (Records.part (Records.connection s))) = available C s
read_by C x = never

-- When what record r reads is there.
unfoldable pub reads : Component → ℕ → Cycles
reads C r = read_by C (record_at C.list r)

-- When what the argument of an invocation for an input reads is there: it stands behind the invocation, in the inputs' order.
abbrev pub argued : Component → Invocation → ℕ → Cycles
argued C v input = reads C (v.place + 1 + input)

-- When what the connection of an output reads is there.
abbrev pub connected : Component → ℕ → Cycles
connected C output = unwrap_or (option_map (reads C) (place C Kind.Connection output)) never
