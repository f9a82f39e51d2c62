-- The numbers of the records run on without a gap: each component begins where the one before it ends.
-- Assumes nothing.
use Rattle.std.specs.Prelude.{ℕ, suc, ◌+◌, ◌<◌, ◌≡◌, length, get_or, take}
use Rattle.std.proofs.Math.Path.{refl}
use Rattle.std.proofs.Common.{ap, take-suc, arith}
use mathlib.Core.List.{List, [], ◌∷◌, map}
use Rattle.std.proofs.Math.ListN.{length-append}
use Rattle.std.proofs.lemmas.List.{length-map}
use Rattle.std.proofs.Math.Seq.{take-length}
use Rattle.timeline.specs.Design.{Design, Component, Call, Source, no_component, component, input_count, output_count, instance_count, invocation_count, connection_count}
use Rattle.entry.specs.Lists.{add_last}
use Rattle.entry.specs.Records
use Rattle.entry.specs.Records.{invocations, parts, records}
use Rattle.entry.specs.Numbers.{component_number, input_number, output_number, instance_number, connection_number}
use Rattle.entry.proofs.Grown.{records_component}
use Rattle.entry.proofs.Standing.{up_to, rest, up_to_next, of_argument, first_invocation, invocation_up_to}

-- The records of the calls, with their arguments.
length_invocations : (calls : List Call) (lists : List (List Source)) → length (invocations calls lists) ≡ up_to lists (length calls)
unfolding invocations up_to
length_invocations [] lists = refl
length_invocations (v ∷ calls) lists =
    let h = length_invocations calls (rest lists) in
    let z = up_to_next lists (length calls) in
    let y = length-append (map of_argument (get_or lists 0 [])) (invocations calls (rest lists)) in
    let x = length-map (get_or lists 0 []) of_argument in
    let e = ap length (first_invocation v calls lists) in
    omega arith

module _ (D : Design) where
  pub first_component : component_number D 0 ≡ 0
  unfolding component_number records
  first_component = refl

  pub all_components : component_number D (length D) ≡ length (records D)
  unfolding component_number
  all_components = rw (take-length D)

  module _ (c : ℕ) (present : c < length D) where
    abbrev C : Component
    C = component D c

    length_parts : suc (length (parts C)) + component_number D c ≡ connection_number D c (connection_count D c)
    unfolding parts component input_number output_number instance_number connection_number input_count output_count instance_count invocation_count connection_count
    length_parts =
        let h = invocation_up_to D [] c present (length C.calls) in
        let z = length_invocations C.calls C.arguments in
        simp (length-append, length-map) (omega arith)

    pub next_component : component_number D (suc c) ≡ connection_number D c (connection_count D c)
    unfolding component_number add_last component
    next_component = rw (take-suc D c no_component present, records_component (take c D) C) (
        let h = length_parts in
        let z = length-append (records (take c D)) (Records.component C.class C.delay ∷ parts C) in
        omega arith)
