-- Every rule of the table is decided. `search decisions` puts the decision of a rule together from its parts, whatever the rule says. Which one it found
-- is not seen, and makes no difference; proofs/Computing decides by what can be computed with.
-- Assumes nothing.
use Rattle.std.specs.Prelude.{ℕ, List, [], ◌∷◌}
use Rattle.timeline.specs.Design.{Component, Port, Source, own, output_of, constant}
use Rattle.entry.specs.Records.{Part, input, output, instance, invocation, argument, connection, Record, wrong, component, part}
use Rattle.entry.specs.Entered.{Entered, nothing, after}
use Rattle.entry.specs.Asks.{Asks, PartRange, InRange, There, Wide, Ready, part_asks, further, asks, ending}
use Rattle.entry.specs.Decisions.{decisions}

-- A decision for each rule.
abbrev pub Decided : Asks → Type 0
Decided [] = Unit
Decided (a ∷ rest) = Dec a.1 × Decided rest

pub decide_part_range : (x : Part) → Dec (PartRange x)
decide_part_range (input p) = search decisions
decide_part_range (output p) = search decisions
decide_part_range (instance n) = search decisions
decide_part_range (invocation v) = search decisions
decide_part_range (argument s) = search decisions
decide_part_range (connection s) = search decisions

pub decide_in_range : (r : Record) → Dec (InRange r)
decide_in_range wrong = search decisions
decide_in_range (component k d) = search decisions
decide_in_range (part x) = decide_part_range x

module _ (E : List Component) (C : Component) where
  pub decide_there : (n : ℕ) (s : Source) → Dec (There E C n s)
  decide_there n (own i) = search decisions
  decide_there n (output_of j o) = search decisions
  decide_there n (constant v) = search decisions

  pub decide_wide : (s : Source) (q : Port) → Dec (Wide E C s q)
  decide_wide (own i) q = search decisions
  decide_wide (output_of j o) q = search decisions
  decide_wide (constant v) q = search decisions

  pub decide_ready : (s : Source) (q : Port) (k : ℕ) → Dec (Ready E C s q k)
  decide_ready (own i) q k = search decisions
  decide_ready (output_of j o) q k = search decisions
  decide_ready (constant v) q k = search decisions

  pub decide_part : (x : Part) → Decided (part_asks E C x)
  decide_part (input p) = search decisions depth 12
  decide_part (output p) = search decisions depth 12
  decide_part (instance n) = search decisions depth 12
  decide_part (invocation v) = search decisions depth 12
  decide_part (argument s) = search (decisions, decide_there, decide_wide, decide_ready) depth 12
  decide_part (connection s) = search (decisions, decide_there, decide_wide, decide_ready) depth 12

pub decide_further : (e : Entered) (r : Record) → Decided (further e r)
decide_further nothing wrong = search decisions
decide_further nothing (component k d) = search decisions
decide_further nothing (part x) = search decisions
decide_further (after E C) wrong = search decisions
decide_further (after E C) (component k d) = search decisions depth 12
decide_further (after E C) (part x) = decide_part E C x

unfoldable pub decide : (e : Entered) (r : Record) → Decided (asks e r)
decide e r = (decide_in_range r, decide_further e r)

pub decide_end : (e : Entered) → Decided (ending e)
decide_end nothing = search decisions
decide_end (after E C) = search decisions depth 12
