-- A record that is entered in its place stands last among the records of what has then been entered.
-- Assumes nothing.
use Rattle.std.specs.Prelude.{◌<◌, ◌≡◌, refl, length}
use Rattle.std.proofs.Common.{sym, ap, ◌∙◌, arith}
use mathlib.Core.List.{List, [], ◌∷◌, ◌++◌, map, append-nil, append_assoc}
use Rattle.timeline.specs.Design.{Design, Component, Call, Source}
use Rattle.entry.specs.Lists.{add_last, change_last}
use Rattle.entry.specs.Records.{Part, input, output, instance, invocation, argument, connection, Record, component, part, invocations, parts, records}
use Rattle.entry.specs.Entered.{add}
use Rattle.entry.specs.Asks.{Place}
use Rattle.entry.proofs.Lists.{map_add_last}
use Rattle.entry.proofs.Good.{Even}

abbrev of_argument : Source → Record
of_argument s = part (argument s)

invocations_call : (calls : List Call) (lists : List (List Source)) (v : Call) → length lists ≡ length calls
    → invocations (add_last calls v) (add_last lists []) ≡ invocations calls lists ++ (part (invocation v) ∷ [])
unfolding invocations add_last
invocations_call [] [] v e = refl
invocations_call [] (a ∷ lists) v e = absurd (omega arith)
invocations_call (w ∷ calls) [] v e = absurd (omega arith)
invocations_call (w ∷ calls) (a ∷ lists) v e =
    ap (part (invocation w) ∷◌) (ap (map of_argument a ++◌) (invocations_call calls lists v (omega arith)) ∙ sym (append_assoc (map of_argument a) (invocations calls lists) (part (invocation v) ∷ [])))

invocations_argument : (calls : List Call) (lists : List (List Source)) (s : Source) → length lists ≡ length calls → 0 < length calls
    → invocations calls (change_last (λ a. add_last a s) lists) ≡ invocations calls lists ++ (part (argument s) ∷ [])
unfolding invocations change_last
invocations_argument [] lists s e l = absurd (omega arith)
invocations_argument (v ∷ calls) [] s e l = absurd (omega arith)
invocations_argument (v ∷ []) (a ∷ []) s e l = ap (part (invocation v) ∷◌) (simp (map_add_last, append-nil))
invocations_argument (v ∷ w ∷ calls) (a ∷ []) s e l = absurd (omega arith)
invocations_argument (v ∷ []) (a ∷ b ∷ lists) s e l = absurd (omega arith)
invocations_argument (v ∷ w ∷ calls) (a ∷ b ∷ lists) s e l =
    ap (part (invocation v) ∷◌) (ap (map of_argument a ++◌) (invocations_argument (w ∷ calls) (b ∷ lists) s (omega arith) (omega arith)) ∙ sym (append_assoc (map of_argument a) (invocations (w ∷ calls) (b ∷ lists)) (part (argument s) ∷ [])))

module _ (E : List Component) (C : Component) where
  pub parts_add : (x : Part) → Place E C x → Even E C → parts (add x C) ≡ parts C ++ (part x ∷ [])
  unfolding parts invocations
  parts_add (input p) w e = rw (w.0, w.1, w.2, w.3) (simp (map_add_last, append-nil))
  parts_add (output p) w e = rw (w.0, w.1, w.2) (simp (map_add_last, append-nil, append_assoc))
  parts_add (instance n) w e = rw (w.1, w.2) (simp (map_add_last, append-nil, append_assoc))
  parts_add (invocation v) w e = rw (w.2, invocations_call C.calls C.arguments v e) (simp (append-nil, append_assoc))
  parts_add (argument s) w e = rw (w.3, invocations_argument C.calls C.arguments s e w.1) (simp (append-nil, append_assoc))
  parts_add (connection s) w e = simp (map_add_last, append_assoc)

add_first : (x : Part) (C : Component) → component (add x C).class (add x C).delay ≡ component C.class C.delay
add_first (input p) C = refl
add_first (output p) C = refl
add_first (instance n) C = refl
add_first (invocation v) C = refl
add_first (argument s) C = refl
add_first (connection s) C = refl

pub records_component : (D : Design) (C : Component) → records (add_last D C) ≡ records D ++ (component C.class C.delay ∷ parts C)
unfolding records add_last
records_component [] C = append-nil _
records_component (B ∷ D) C =
    ap ((component B.class B.delay ∷ parts B) ++◌) (records_component D C)
    ∙ sym (append_assoc (component B.class B.delay ∷ parts B) (records D) (component C.class C.delay ∷ parts C))

pub records_part : (D : Design) (C : Component) (x : Part) → Place D C x → Even D C → records (add_last D (add x C)) ≡ records (add_last D C) ++ (part x ∷ [])
records_part D C x w e =
    rw (records_component D (add x C), records_component D C, parts_add D C x w e, add_first x C)
    (sym (append_assoc (records D) (component C.class C.delay ∷ parts C) (part x ∷ [])))
