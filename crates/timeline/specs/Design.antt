-- A design: components numbered from 0, and what each of them holds. (01, Records)
-- Assumes nothing.
use Rattle.std.specs.Prelude.{ℕ, List, [], length, get_or}

-- "An interval [s, e) holds cycles s to e−1 after the event."
pub record Port : Type 0 where
  pub start : ℕ
  pub end : ℕ
  pub width : ℕ

-- "A source is an own input, an output of an earlier invocation, or a constant": the input's number; the invocation's and the output's; the value.
pub data Source : Type 0 where
  own : ℕ → Source
  output_of : ℕ → ℕ → Source
  constant : ℕ → Source

-- An invocation without its arguments: the instance that it starts, and when.
pub record Call : Type 0 where
  pub instance : ℕ
  pub offset : ℕ

pub data Class : Type 0 where
  leaf built : Class

-- `instances` has the component of each instance, `arguments` a list for each call.
pub record Component : Type 0 where
  pub class : Class
  pub delay : ℕ
  pub inputs : List Port
  pub outputs : List Port
  pub instances : List ℕ
  pub calls : List Call
  pub arguments : List (List Source)
  pub connections : List Source

abbrev pub Design : Type 0
Design = List Component

-- What stands past the end of a list.
unfoldable pub no_port : Port
no_port = record { start = 0; end = 0; width = 0 }

unfoldable pub no_call : Call
no_call = record { instance = 0; offset = 0 }

unfoldable pub no_component : Component
no_component = record { class = leaf; delay = 0; inputs = []; outputs = []; instances = []; calls = []; arguments = []; connections = [] }

-- Component c, and what it holds, everything by its number.
module _ (D : Design) where
  unfoldable pub component : ℕ → Component
  component c = get_or D c no_component

  unfoldable pub class : ℕ → Class
  class c = (component c).class

  unfoldable pub delay : ℕ → ℕ
  delay c = (component c).delay

  unfoldable pub input_count : ℕ → ℕ
  input_count c = length (component c).inputs

  unfoldable pub output_count : ℕ → ℕ
  output_count c = length (component c).outputs

  unfoldable pub instance_count : ℕ → ℕ
  instance_count c = length (component c).instances

  unfoldable pub invocation_count : ℕ → ℕ
  invocation_count c = length (component c).calls

  unfoldable pub argument_count : (c j : ℕ) → ℕ
  argument_count c j = length (get_or (component c).arguments j [])

  unfoldable pub connection_count : ℕ → ℕ
  connection_count c = length (component c).connections

  unfoldable pub input : (c i : ℕ) → Port
  input c i = get_or (component c).inputs i no_port

  unfoldable pub output : (c o : ℕ) → Port
  output c o = get_or (component c).outputs o no_port

  -- The component that instance n is an instance of.
  unfoldable pub made_of : (c n : ℕ) → ℕ
  made_of c n = get_or (component c).instances n 0

  unfoldable pub call : (c j : ℕ) → Call
  call c j = get_or (component c).calls j no_call

  -- Of invocation j: its instance, the invoked component, its offset, its argument for input i.
  unfoldable pub instance : (c j : ℕ) → ℕ
  instance c j = (call c j).instance

  unfoldable pub invoked : (c j : ℕ) → ℕ
  invoked c j = made_of c (instance c j)

  unfoldable pub offset : (c j : ℕ) → ℕ
  offset c j = (call c j).offset

  unfoldable pub argument : (c j i : ℕ) → Source
  argument c j i = get_or (get_or (component c).arguments j []) i (constant 0)

  unfoldable pub connection : (c o : ℕ) → Source
  connection c o = get_or (component c).connections o (constant 0)

  -- How long invocation j occupies its instance, and what it promises at output o.
  unfoldable pub takes : (c j : ℕ) → ℕ
  takes c j = delay (invoked c j)

  unfoldable pub gives : (c j o : ℕ) → Port
  gives c j o = output (invoked c j) o
