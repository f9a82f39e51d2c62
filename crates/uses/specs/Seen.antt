-- The invocations of a component as its picture shows them: of which instance they are, when what they read is there, and for how long they are seen.
-- Assumes nothing.
use Rattle.std.specs.Prelude.{ℕ, zero, suc, ◌+◌, ◌-◌, ◌^◌, min, max, Bool, false, cond, ◌==◌, List, Option, Some, None, fold}
use Rattle.std.specs.Option.{option_map, unwrap_or}
use Rattle.parts.specs.declared.kind.Kind.{Kind}
use Rattle.parts.specs.declared.Use.{Use}
use Rattle.parts.specs.Parts.{Component, Invocation, Cycles, never, port, named, argued}
use Rattle.parts.specs.Shown.{used, cycles as cycles_of}
use Rattle.parts.specs.declared.interval.Interval.{Interval}
use Rattle.std.specs.List.{slice_index_or}

-- At the start alone, of instance 0.
abbrev pub once : Invocation
once = record { instance = 0; offset = 0; place = 0 }

-- Whether there is an invocation, and of this instance.
abbrev pub is_of : ℕ → Option Use → Bool
is_of instance None = false
is_of instance (Some u) = u.instance == instance

abbrev pub argued_to : Component → (input : ℕ) → Option Use → Cycles
argued_to C input None = never
argued_to C input (Some u) = argued C (used u) input

-- When the argument for an input is there, of an invocation of this instance; never, of another.
abbrev pub argument : Component → (instance input : ℕ) → Option Use → Cycles
argument C instance input u = cond (is_of instance u) (argued_to C input u) never

-- The j-th of a list of times.
abbrev pub time : List Interval → (j : ℕ) → Cycles
time times j = cycles_of (slice_index_or times j (record { start = 0; end = 0 }))

-- The greatest end of the first n inputs and the first n outputs.
unfoldable pub ends_below : Component → (n : ℕ) → ℕ
ends_below C zero = 0
ends_below C (suc n) =
    max (max (ends_below C n) (unwrap_or (option_map (λ p. p.end) (port C Kind.Input n)) 0))
    (unwrap_or (option_map (λ p. p.end) (port C Kind.Output n)) 0)

abbrev pub ports_end : Component → ℕ
ports_end C = ends_below C 16

abbrev pub reach_of : Option Component → ℕ
reach_of None = 0
reach_of (Some C) = max C.delay (ports_end C)

-- For how long an invocation of an instance is seen.
abbrev pub reach : Component → (instance : ℕ) → ℕ
reach C instance = reach_of (named C instance)

-- A cycle as sixteen bits hold it.
abbrev pub held : ℕ → ℕ
held n = min n (2 ^ 16 - 1)

-- The cycle until which an invocation is seen.
abbrev pub seen : Component → Option Use → ℕ
seen C None = 0
seen C (Some u) = held (u.offset + reach C u.instance)

-- How many cycles a start is seen for, and the next one, `delay` cycles later.
abbrev pub cycles : Component → List (Option Use) → ℕ
cycles C invocations = held (max (fold (λ last u. max last (seen C u)) 1 invocations) (ports_end C) + C.delay)
