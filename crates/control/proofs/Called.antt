-- What stands in the file for the component that is lowered: one invocation after another, and the components that they invoke.
-- Assumes nothing.
use Prim.Native.Nat.{ℕ, ◌+◌, ◌≤◌, ◌<◌}
use mathlib.Core.Path.{◌≡◌, sym, ap, ◌∙◌}
use mathlib.Core.List.{List, ◌∷◌}
use native.Mathlib.Omega.{arith}
use native.Mathlib.Numerals.{add-one}
use lib.ListN.{length}
use Rattle.timetable.specs.Rows as Timetable
use Rattle.timetable.specs.Rows.{go, first_state, last_state, go_row, guard_row, invocation_rows}
use Rattle.timeline.specs.Design.{Design, input_count, instance_count, instance, invoked, offset}
use Rattle.entry.specs.Numbers.{instance_number, invocation_number, argument_number}
use Rattle.groups.specs.Groups.{Lies, first_number, second_number}
use Rattle.groups.proofs.Laws.{lies, component_below, next_below, instance_below, invocation_below, instance_says, invocation_says, next_invocation}
use Rattle.rows.specs.declared.Use.{Use}
use Rattle.rows.specs.Rows as Rows
use Rattle.rows.specs.Rows.{lasting, InRange}
use Rattle.control.specs.declared.Built.{Built}
use Rattle.control.specs.declared.Uses.{Uses}
use Rattle.control.specs.Stands.{design, called, Stands, Begins, UseOf, MayCall, Comes}
use Rattle.control.proofs.Places.{one_more, next_within, no_more}
use Rattle.control.proofs.Reached.{Lasts}
use Rattle.control.proofs.Lists.{list_same}
use Rattle.control.proofs.Found.{counts_of, input_found, lasts, lasting_most, connections_end}

module _ {b : Built} (h : Stands b) where
  abbrev file : List ℕ
  file = b.judged.file.now

  abbrev E : Design
  E = design b

  abbrev c : ℕ
  c = b.number

  pub last_below : b.connections + b.row.outputs ≤ 3968
  last_below =
      let a = connections_end h.opened c h.there h.is_built in
      let k = next_below h.opened c h.there in
      let m = h.opened.few in
      let o = h.outputs_are in
      let e = h.connections_at in
      omega arith

  pub first_below : b.row.first < 3968
  first_below =
      let a = component_below h.opened c h.there in
      let e = h.first_is in
      let m = h.opened.few in
      omega arith

  pub few_ports : (b.row.inputs ≤ 16) × (b.row.outputs ≤ 16)
  few_ports =
      let a = counts_of h.opened c h.there in
      let i = h.inputs_are in
      let o = h.outputs_are in
      (omega (arith, a.few_inputs), omega (arith, a.few_outputs))

  -- The invocations begin with the first, and end where the connections begin.
  pub first_call : Begins b 0 b.invocations
  first_call = record { up_to = omega arith; at = h.invocations_at }

  pub calls_done : {j i : ℕ} → Begins b j i → b.connections ≤ i → j ≡ called b
  calls_done {j} w k = let a = h.connections_at in let e = w.at in no_more E c j w.up_to (omega arith)

  -- How long the component itself lasts.
  pub own_lasts : Lasts E c (lasting file b.row.first (b.row.inputs + b.row.outputs))
  own_lasts = rw (h.first_is, h.inputs_are, h.outputs_are) (lasts h.opened c h.there)

  -- Before the connections there is one invocation more.
  module _ {j i : ℕ} (w : Begins b j i) (t : i < b.connections) where
    pub called_there : j < called b
    called_there = let a = h.connections_at in let e = w.at in one_more E c j w.up_to (omega arith)

    pub few_calls : j < 64
    few_calls = let a = (counts_of h.opened c h.there).few_invocations in let l = called_there in omega arith

    named : instance E c j < instance_count E c
    named = (h.opened.lawful.rules c h.there).references.named j called_there

    pub call_lies : Lies file i
    call_lies = rw w.at (lies h.opened (invocation_number E c j) (invocation_below h.opened c h.there j called_there))

    pub call_says : (first_number file i ≡ instance E c j) × (second_number file i ≡ offset E c j)
    call_says = rw w.at (invocation_says h.opened c h.there j called_there)

    -- Its instance's record: that many after the first one, and in it the invoked component.
    module _ (k : ℕ) (e : k ≡ first_number file i) where
      instance_place : b.instances + k ≡ instance_number E c (instance E c j)
      unfolding instance_number
      instance_place = let a = h.instances_at in let q = e ∙ call_says.0 in omega arith

      pub instance_lies : Lies file (b.instances + k)
      instance_lies = rw instance_place (lies h.opened (instance_number E c (instance E c j)) (instance_below h.opened c h.there (instance E c j) named))

      pub component_says : first_number file (b.instances + k) ≡ invoked E c j
      unfolding invoked
      component_says = rw instance_place (instance_says h.opened c h.there (instance E c j) named)

    pub invoked_there : invoked E c j < length E
    unfolding invoked
    invoked_there =
        let a = (h.opened.lawful.rules c h.there).references.lower (instance E c j) named in
        let k = h.there in
        omega arith

    pub invoked_few : invoked E c j < 64
    invoked_few = let a = invoked_there in let k = h.opened.lawful.few in omega arith

    module _ {u : Use} (g : UseOf E c j u) where
      pub use_lasts : Lasts E (invoked E c j) (lasting file u.first (u.inputs + u.outputs))
      use_lasts = rw (g.first_is, g.inputs_are, g.outputs_are) (lasts h.opened (invoked E c j) invoked_there)

      pub use_lasting : lasting file u.first (u.inputs + u.outputs) ≤ 1024
      use_lasting = rw (g.first_is, g.inputs_are, g.outputs_are) (lasting_most h.opened (invoked E c j) invoked_there)

      pub in_range : InRange file u
      in_range =
          let d = invoked E c j in
          let r = h.opened.lawful.ranges d invoked_there in
          let n = h.opened.few in
          record {
            number = let a = few_calls in let e = g.number_is in omega arith;
            offset = let a = ((h.opened.lawful.ranges c h.there).invocation_range j called_there).1 in let e = g.offset_is in omega arith;
            few = let a = (counts_of h.opened d invoked_there).few_inputs in let e = g.inputs_are in omega arith;
            first = let a = component_below h.opened d invoked_there in let e = g.first_is in omega arith;
            own = let a = invocation_below h.opened c h.there j called_there in let e = g.record_is in omega arith;
            ports = λ i p.
                let q : i < input_count E d = let e = g.inputs_are in omega arith in
                rw (g.first_is, input_found h.opened d invoked_there i q) (r.input_range i q);
          }

      pub few_outputs : u.outputs ≤ 16
      few_outputs = let a = (counts_of h.opened (invoked E c j) invoked_there).few_outputs in let e = g.outputs_are in omega arith

      -- The rows that the file's ports give are those of the invocation.
      pub use_rows : Rows.invocation_rows file u ≡ invocation_rows E c j
      unfolding Rows.invocation_rows invocation_rows go_row guard_row first_state last_state argument_number
      use_rows =
          rw (g.number_is, g.record_is, g.instance_is, g.offset_is, g.inputs_are, g.first_is)
          (ap (λ (t : List Timetable.Row). go j (instance E c j) (offset E c j) ∷ t) (list_same (input_count E (invoked E c j)) _ _ (λ i p. rw (input_found h.opened (invoked E c j) invoked_there i p))))

      pub next_call : Begins b (j + 1) (i + (1 + u.inputs))
      next_call =
          let a = next_invocation h.opened c h.there j called_there in
          let d = g.inputs_are in
          let e = w.at in
          let l = called_there in
          record { up_to = omega arith; at = rw (add-one j) (omega arith) }

      pub call_within : i + (1 + u.inputs) ≤ b.connections
      call_within =
          let a = next_call.at in
          let k = next_within E c j called_there in
          let d = h.connections_at in
          let q = ap (invocation_number E c) (add-one j) in
          omega arith

-- The invocation that comes next, of component b.
module _ {b : Built} {s : Uses} (same : s.of ≡ b) (m : MayCall s) where
  pub next_begins : Begins b s.number s.record
  next_begins = rw same at m.begins

  pub none_after : s.of.connections ≤ s.record → b.connections ≤ s.record
  none_after l = rw same at l

  pub none_left : s.number ≡ called s.of → s.number ≡ called b
  none_left e = e ∙ ap called same

  module _ {u : Use} {t : Uses} (k : Comes s u t) where
    pub next_use : UseOf (design b) b.number s.number u
    next_use = rw same at k.is_use

    pub next_record : u.record ≡ s.record
    next_record = next_use.record_is ∙ sym next_begins.at

    pub next_before : s.record < b.connections
    next_before = rw same at k.before

    next_stands : Stands b
    next_stands = rw same at m.stands

    pub next_range : InRange b.judged.file.now u
    next_range = in_range next_stands next_begins next_before next_use

    pub next_outputs : u.outputs ≤ 16
    next_outputs = few_outputs next_stands next_begins next_before next_use

    pub next_lasting : lasting b.judged.file.now u.first (u.inputs + u.outputs) ≤ 1024
    next_lasting = use_lasting next_stands next_begins next_before next_use

    pub next_ends : s.record + (1 + u.inputs) ≤ b.connections
    next_ends = call_within next_stands next_begins next_before next_use

    pub next_same : t.of ≡ b
    next_same = k.same ∙ same
