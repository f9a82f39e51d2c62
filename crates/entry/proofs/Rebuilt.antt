-- Entering the records of a design gives the design, whatever the rules say of it: it needs only one list of arguments for each call.
-- Assumes nothing.
use Rattle.std.specs.Prelude.{ℕ, ◌≡◌, refl, length}
use Rattle.std.proofs.Common.{sym, ◌∙◌, length-append, take_at, arith}
use Rattle.std.proofs.Math.Path.{ap}
use mathlib.Core.List.{List, [], ◌∷◌, ◌++◌, map, append-nil}
use Rattle.std.proofs.Math.Seq.{get_or-append_seam}
use Rattle.timeline.specs.Design.{Design, Component, Call, Port, Source, Class, no_component}
use Rattle.entry.specs.Lists.{add_last}
use Rattle.entry.specs.Records.{input, output, instance, argument, connection, Record, part, invocations, parts, records}
use Rattle.entry.specs.Entered.{Entered, nothing, after, new, enter, enter_all, said, design}
use Rattle.entry.proofs.Lists.{add_last_append, change_last_add_last}
use Rattle.entry.proofs.Good.{Even, All}

pub enter_append : (e : Entered) (xs ys : List Record) → enter_all e (xs ++ ys) ≡ enter_all (enter_all e xs) ys
unfolding enter_all
enter_append e [] ys = refl
enter_append e (x ∷ xs) ys = enter_append (enter e x) xs ys

-- As much of a component as has been entered.
abbrev pub made : Class → ℕ → List Port → List Port → List ℕ → List Call → List (List Source) → List Source → Component
made k d inputs outputs instances calls arguments connections =
    record { class = k; delay = d; inputs = inputs; outputs = outputs; instances = instances; calls = calls; arguments = arguments; connections = connections }

-- What is done of a group of records, and what more of it follows.
module _ (E : List Component) (k : Class) (d : ℕ) where
  pub enter_inputs : (done more : List Port) → enter_all (after E (made k d done [] [] [] [] [])) (map (λ p. part (input p)) more) ≡ after E (made k d (done ++ more) [] [] [] [] [])
  unfolding enter_all
  enter_inputs done [] = rw (append-nil done)
  enter_inputs done (p ∷ more) = rw (add_last_append done p more) at (enter_inputs (add_last done p) more)

  module _ (inputs : List Port) where
    pub enter_outputs : (done more : List Port) → enter_all (after E (made k d inputs done [] [] [] [])) (map (λ p. part (output p)) more) ≡ after E (made k d inputs (done ++ more) [] [] [] [])
    unfolding enter_all
    enter_outputs done [] = rw (append-nil done)
    enter_outputs done (p ∷ more) = rw (add_last_append done p more) at (enter_outputs (add_last done p) more)

    module _ (outputs : List Port) where
      pub enter_instances : (done more : List ℕ)
          → enter_all (after E (made k d inputs outputs done [] [] [])) (map (λ n. part (instance n)) more) ≡ after E (made k d inputs outputs (done ++ more) [] [] [])
      unfolding enter_all
      enter_instances done [] = rw (append-nil done)
      enter_instances done (n ∷ more) = rw (add_last_append done n more) at (enter_instances (add_last done n) more)

      module _ (instances : List ℕ) where
        abbrev pub with_calls : List Call → List (List Source) → List Source → Component
        with_calls calls lists connections = made k d inputs outputs instances calls lists connections

        pub enter_arguments : (calls : List Call) (lists : List (List Source)) (done more : List Source)
            → enter_all (after E (with_calls calls (add_last lists done) [])) (map (λ s. part (argument s)) more) ≡ after E (with_calls calls (add_last lists (done ++ more)) [])
        unfolding enter_all
        enter_arguments calls lists done [] = rw (append-nil done)
        enter_arguments calls lists done (s ∷ more) =
            ap (λ l. enter_all (after E (with_calls calls l [])) (map (λ t. part (argument t)) more)) (change_last_add_last (λ a. add_last a s) lists done)
            ∙ (rw (add_last_append done s more) at (enter_arguments calls lists (add_last done s) more))

        pub enter_invocations : (done more : List Call) (lists later : List (List Source)) → length later ≡ length more
            → enter_all (after E (with_calls done lists [])) (invocations more later) ≡ after E (with_calls (done ++ more) (lists ++ later) [])
        unfolding enter_all invocations
        enter_invocations done [] lists [] e = rw (append-nil done, append-nil lists)
        enter_invocations done [] lists (a ∷ later) e = absurd (omega arith)
        enter_invocations done (v ∷ more) lists [] e = absurd (omega arith)
        enter_invocations done (v ∷ more) lists (a ∷ later) e =
            enter_append _ (map (λ s. part (argument s)) a) (invocations more later)
            ∙ ap (λ f. enter_all f (invocations more later)) (enter_arguments (add_last done v) lists [] a)
            ∙ (rw (add_last_append done v more, add_last_append lists a later) at (enter_invocations (add_last done v) more (add_last lists a) later (omega arith)))

        pub enter_connections : (calls : List Call) (lists : List (List Source)) (done more : List Source)
            → enter_all (after E (with_calls calls lists done)) (map (λ s. part (connection s)) more) ≡ after E (with_calls calls lists (done ++ more))
        unfolding enter_all
        enter_connections calls lists done [] = rw (append-nil done)
        enter_connections calls lists done (s ∷ more) = rw (add_last_append done s more) at (enter_connections calls lists (add_last done s) more)

-- One group after another.
enter_both : (e f g : Entered) (xs ys : List Record) → enter_all e xs ≡ f → enter_all f ys ≡ g → enter_all e (xs ++ ys) ≡ g
enter_both e f g xs ys h k = enter_append e xs ys ∙ ap (λ x. enter_all x ys) h ∙ k

pub enter_parts : (E : List Component) (C : Component) → Even E C → enter_all (after E (new C.class C.delay)) (parts C) ≡ after E C
unfolding parts
enter_parts E C e =
    enter_both _ _ _ _ _ (enter_inputs E k d [] C.inputs)
    (enter_both _ _ _ _ _ (enter_outputs E k d C.inputs [] C.outputs)
    (enter_both _ _ _ _ _ (enter_instances E k d C.inputs C.outputs [] C.instances)
    (enter_both _ _ _ _ _ (enter_invocations E k d C.inputs C.outputs C.instances [] C.calls [] C.arguments e)
    (enter_connections E k d C.inputs C.outputs C.instances C.calls C.arguments [] C.connections))))
  where
    k : Class
    k = C.class

    d : ℕ
    d = C.delay

-- A fact of each component over those before it, by one component after another.
unfoldable pub Chain : (List Component → Component → Type 0) → List Component → Design → Type 0
Chain P E [] = Unit
Chain P E (C ∷ D) = P E C × Chain P (add_last E C) D

pub chain : (P : List Component → Component → Type 0) (E : List Component) (D : Design) → All (E ++ D) P → Chain P E D
unfolding Chain
chain P E [] h = tt
chain P E (C ∷ D) h =
    let z = length-append E (C ∷ D) in (
      rw (get_or-append_seam E C D no_component, take_at E (C ∷ D) (length E) refl) at (h (length E) (omega arith)),
      chain P (add_last E C) D (rw (add_last_append E C D) h),
    )

enter_later : (E : List Component) (C : Component) (D : Design) → Chain Even (add_last E C) D → said (enter_all (after E C) (records D)) ≡ add_last E C ++ D
unfolding Chain records enter_all
enter_later E C [] c = sym (append-nil (add_last E C))
enter_later E C (B ∷ D) c =
    ap said (enter_both _ _ _ (parts B) (records D) (enter_parts (add_last E C) B c.0) refl)
    ∙ enter_later (add_last E C) B D c.1 ∙ add_last_append (add_last E C) B D

pub design_records : (D : Design) → All D Even → design (records D) ≡ D
unfolding design Chain records enter_all add_last
design_records D h = go D (chain Even [] D h)
  where
    go : (D : Design) → Chain Even [] D → said (enter_all nothing (records D)) ≡ D
    go [] c = refl
    go (C ∷ D) c = ap said (enter_both _ _ _ (parts C) (records D) (enter_parts [] C c.0) refl) ∙ enter_later [] C D c.1
