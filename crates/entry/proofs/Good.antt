-- What holds of a component, as far as it has been entered, when every record of it kept the rules: the invariant of the verdict.
-- Assumes nothing.
use Rattle.std.specs.Prelude.{ℕ, ◌≤◌, ◌<◌, ◌≡◌, List, [], ◌∷◌, length, get_or, take}
use Rattle.timeline.specs.Design.{Design, Component, Port, Source, constant, leaf, no_port, no_call, no_component}
use Rattle.timeline.specs.Rules.{PortRange, SourceRange}
use Rattle.entry.specs.Records.{component, instance, invocation}
use Rattle.entry.specs.Asks.{Asks, PartRange, InRange, call, invoked, argument_count, Complete, There, Wide, Short, Apart, Spans, Ready}
use Rattle.entry.proofs.Lists.{Each, Pairs}

-- Every rule is kept.
abbrev pub Keeps : Asks → Type 0
Keeps [] = Unit
Keeps (a ∷ rest) = a.1 × Keeps rest

module _ (E : List Component) (C : Component) where
  abbrev pub argument_of : (j i : ℕ) → Source
  argument_of j i = get_or (get_or C.arguments j []) i (constant 0)

  -- All that is asked of a source in range or beyond, read at port q of what starts at k.
  abbrev pub Fed : ℕ → Source → Port → ℕ → Type 0
  Fed n s q k = SourceRange s × There E C n s × Wide E C s q × Ready E C s q k

  -- The calls: each; in pairs, apart; in pairs, within the span.
  abbrev pub Called : Type 0
  Called =
      Each no_call (λ v. PartRange (invocation v) × (v.instance < length C.instances) × Spans E C v v) C.calls
      × Pairs no_call (Apart E C) C.calls
      × Pairs no_call (Spans E C) C.calls

  pub record Counted : Type 0 where
    pub few_inputs : length C.inputs ≤ 16
    pub few_outputs : length C.outputs ≤ 16
    pub few_instances : length C.instances ≤ 32
    pub few_calls : length C.calls ≤ 64

  -- One list of arguments for each call; and a leaf has ports only.
  abbrev pub Even : Type 0
  Even = length C.arguments ≡ length C.calls

  abbrev pub PortsOnly : Type 0
  PortsOnly = C.class ≡ leaf → (C.instances ≡ []) × (C.calls ≡ []) × (C.connections ≡ [])

  pub record Good : Type 0 where
    pub delay : InRange (component C.class C.delay)
    pub inputs : Each no_port (λ p. PortRange p × Short E C p) C.inputs
    pub outputs : Each no_port (λ p. PortRange p × Short E C p) C.outputs
    pub instances : Each 0 (λ n. PartRange (instance n) × (n < length E)) C.instances
    pub calls : Called
    pub arguments : (j : ℕ) → j < length C.calls → (i : ℕ) → i < argument_count E C j → Fed j (argument_of j i) (get_or (invoked E C j).inputs i no_port) (call E C j).offset
    pub connections : (o : ℕ) → o < length C.connections → Fed (length C.calls) (get_or C.connections o (constant 0)) (get_or C.outputs o no_port) 0
    pub counted : Counted
    pub even : Even
    pub ports_only : PortsOnly

  -- Good, and nothing of it is missing.
  abbrev pub Finished : Type 0
  Finished = Good × Complete E C

-- Of every component of a design, over those before it.
abbrev pub All : Design → (List Component → Component → Type 0) → Type 0
All D P = (c : ℕ) → c < length D → P (take c D) (get_or D c no_component)

pub record AllFinished (D : Design) : Type 0 where
  pub each : All D Finished
  pub some : 0 < length D
  pub few : length D ≤ 64
