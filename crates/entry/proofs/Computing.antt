-- The verdict as it computes: what is decided in specs/Decide, decided again so that it can be unfolded. Two decisions of one rule say the same, so both
-- give one verdict.
-- Assumes nothing.
use Rattle.std.specs.Prelude.{ℕ, suc, ◌≡◌, refl, List, [], ◌∷◌, map, length}
use Rattle.answers.specs.Answer.{Answer, accepted, refused, Counts, Refusal}
use Rattle.timeline.specs.Design.{Component, Port, Source, own, output_of, constant}
use Rattle.entry.specs.Records.{Part, input, output, instance, invocation, argument, connection, Record, wrong, component, part}
use Rattle.entry.specs.Entered.{Entered, nothing, after, enter, said}
use Rattle.entry.specs.Asks.{Asks, PartRange, InRange, There, Wide, Ready, part_asks, further, asks, ending}
use Rattle.entry.specs.Told.{told}
use Rattle.entry.specs.Decisions.{decisions}
use Rattle.entry.specs.Decide.{Decided, decide, decide_end}
use Rattle.entry.specs.Verdict.{first, judge, verdict}

unfoldable pub compute_part_range : (x : Part) → Dec (PartRange x)
compute_part_range (input p) = search decisions
compute_part_range (output p) = search decisions
compute_part_range (instance n) = search decisions
compute_part_range (invocation v) = search decisions
compute_part_range (argument s) = search decisions
compute_part_range (connection s) = search decisions

unfoldable pub compute_in_range : (r : Record) → Dec (InRange r)
compute_in_range wrong = search decisions
compute_in_range (component k d) = search decisions
compute_in_range (part x) = compute_part_range x

module _ (E : List Component) (C : Component) where
  unfoldable pub compute_there : (n : ℕ) (s : Source) → Dec (There E C n s)
  compute_there n (own i) = search decisions
  compute_there n (output_of j o) = search decisions
  compute_there n (constant v) = search decisions

  unfoldable pub compute_wide : (s : Source) (q : Port) → Dec (Wide E C s q)
  compute_wide (own i) q = search decisions
  compute_wide (output_of j o) q = search decisions
  compute_wide (constant v) q = search decisions

  unfoldable pub compute_ready : (s : Source) (q : Port) (k : ℕ) → Dec (Ready E C s q k)
  compute_ready (own i) q k = search decisions
  compute_ready (output_of j o) q k = search decisions
  compute_ready (constant v) q k = search decisions

  unfoldable pub compute_part : (x : Part) → Decided (part_asks E C x)
  compute_part (input p) = search decisions depth 12
  compute_part (output p) = search decisions depth 12
  compute_part (instance n) = search decisions depth 12
  compute_part (invocation v) = search decisions depth 12
  compute_part (argument s) = search (decisions, compute_there, compute_wide, compute_ready) depth 12
  compute_part (connection s) = search (decisions, compute_there, compute_wide, compute_ready) depth 12

unfoldable pub compute_further : (e : Entered) (r : Record) → Decided (further e r)
compute_further nothing wrong = search decisions
compute_further nothing (component k d) = search decisions
compute_further nothing (part x) = search decisions
compute_further (after E C) wrong = search decisions
compute_further (after E C) (component k d) = search decisions depth 12
compute_further (after E C) (part x) = compute_part E C x

unfoldable pub compute : (e : Entered) (r : Record) → Decided (asks e r)
compute e r = (compute_in_range r, compute_further e r)

unfoldable pub compute_end : (e : Entered) → Decided (ending e)
compute_end nothing = search decisions
compute_end (after E C) = search decisions depth 12

first_same : (l : Asks) (d c : Decided l) (tell : ℕ → Refusal) (j k : Answer Counts) → j ≡ k → first l d tell j ≡ first l c tell k
unfolding first
first_same [] d c tell j k e = e
first_same (a ∷ rest) d c tell j k e = pick d.0 c.0 (first_same rest d.1 c.1 tell j k e)
  where
    pick : (x y : Dec a.1)
        → first rest d.1 tell j ≡ first rest c.1 tell k
        → ◌≡◌ {A = Answer Counts} (elim x [ yes h ↦ first rest d.1 tell j | no h ↦ refused (tell a.0) ]) (elim y [ yes h ↦ first rest c.1 tell k | no h ↦ refused (tell a.0) ])
    pick (yes h) (yes g) r = r
    pick (yes h) (no g) r = absurd (g h)
    pick (no h) (yes g) r = absurd (h g)
    pick (no h) (no g) r = refl

unfoldable pub computing : Entered → ℕ → List Record → Answer Counts
computing e p [] = first (ending e) (compute_end e) (told e wrong p) (accepted (record { components = length (said e); records = p }))
computing e p (r ∷ rs) = let k = computing (enter e r) (suc p) rs in first (asks e r) (compute e r) (told e r p) k

pub computing_same : (e : Entered) (p : ℕ) (rs : List Record) → judge e p rs ≡ computing e p rs
unfolding judge computing
computing_same e p [] =
    first_same (ending e) (decide_end e) (compute_end e) (told e wrong p) (accepted (record { components = length (said e); records = p }))
    (accepted (record { components = length (said e); records = p })) refl
computing_same e p (r ∷ rs) =
    first_same (asks e r) (decide e r) (compute e r) (told e r p) (judge (enter e r) (suc p) rs) (computing (enter e r) (suc p) rs) (computing_same (enter e r) (suc p) rs)

-- Of a table of cases.
pub computing_all : (table : List (List Record × Answer Counts)) → map (λ t. verdict t.0) table ≡ map (λ t. computing nothing 0 t.0) table
unfolding verdict
computing_all [] = refl
computing_all (t ∷ rest) = let h = computing_same nothing 0 t.0 in let k = computing_all rest in cc
