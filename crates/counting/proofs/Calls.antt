-- The loop over the invocations of an opened component: what stands at its record, and what it then knows.
-- Assumes nothing.
use Prim.Native.Nat.{ℕ, suc, ◌+◌, ◌-◌, ◌≤◌, ◌<◌}
use mathlib.Core.Path.{◌≡◌, ap, ◌∙◌}
use mathlib.Core.List.{List}
use native.Mathlib.Omega.{arith}
use native.Mathlib.Decide.{dec_lt}
use lib.ListN.{length, get_or}
use Rattle.timeline.specs.Design.{Design, built, class, input_count, instance_count, invocation_count, instance, invoked}
use Rattle.timeline.specs.Flat.{row_count, units_before}
use Rattle.entry.specs.Numbers.{component_number, invocation_number}
use Rattle.reader.specs.Rows.{row_in}
use Rattle.groups.specs.Groups.{design_of, first_number, second_number, past_ports, past_instances, end_of}
use Rattle.groups.proofs.Order.{none_behind}
use Rattle.expansion.specs.declared.Note.{Note}
use Rattle.expansion.specs.Noted.{capped}
use Rattle.counting.specs.Known.{OpenedAt, Counts, UnitsBefore, kept_note, next_note, Noting}
use Rattle.counting.proofs.Places.{present, few_components, few_instances, outputs_are, inputs_are, calls_end, in_order, begins, instances_pass, Read, invocation_read}
use Rattle.counting.proofs.Turns.{noting_none, noting_more, units_of}

-- At record i, that of invocation `number`.
pub record Going (D : Design) (c a i z s : ℕ) (old new : List Note) : Type 0 where
  pub number : ℕ
  pub place : i ≡ invocation_number D c number
  pub noting : Noting D c number a z s old new

module _ {file table : List ℕ} {components n c : ℕ} (o : OpenedAt file table components n c) where
  abbrev D : Design
  D = design_of file n

  pub connections_asked : class D c ≡ built → (c < components) × (components ≤ 64) × ((row_in table c).outputs ≤ end_of table components n c)
  connections_asked b = let e = calls_end o b in let f = outputs_are o in (o.there, few_components o, omega arith)

  module _ (b : class D c ≡ built) {first last : ℕ} (ef : first ≡ past_ports (row_in table c)) (el : last ≡ end_of table components n c - (row_in table c).outputs) where
    last_is : last ≡ invocation_number D c (invocation_count D c)
    last_is = let e = calls_end o b in let f = outputs_are o in omega arith

    pub going_none : {i a : ℕ} (noted : List Note) → i ≡ past_instances file (n - first) first → a ≤ component_number D c → length noted ≡ 3968 → Going D c a i a 0 noted noted
    going_none {i} {a} noted e l w =
        let q = in_order D c (present o) in
        record { number = 0; place = (instances_pass o ef e).1; noting = noting_none o.opened.lawful c (present o) a noted (omega arith) w }

    module _ {i a z s : ℕ} {old mid : List Note} (g : Going D c a i z s old mid) where
      pub going_end : last ≤ i → Noting D c (invocation_count D c) a z s old mid
      going_end h =
          let e = last_is in
          let p = g.place in
          rw (none_behind D c g.number g.noting.few (omega arith)) at g.noting

      module _ (h : i < last) where
        pub left : g.number < invocation_count D c
        left = go (dec_lt g.number (invocation_count D c))
          where
            go : Dec (g.number < invocation_count D c) → g.number < invocation_count D c
            go (yes l) = l
            go (no l) =
                let f = g.noting.few in
                let q : g.number ≡ invocation_count D c = omega arith in
                let p = ap (invocation_number D c) q in
                let r = g.place in
                let e = last_is in
                absurd (omega arith)

        pub stands : Read o (begins o ef) i g.number
        stands = invocation_read o (begins o ef) g.place left

        pub free : z < 3968
        free = let p = g.place in let q = g.noting.place in let t = stands.there.0 in omega arith

        pub sum_small : s ≤ 4097
        sum_small = let e = g.noting.rows_are in omega arith

        -- The invocation that was read, by its numbers.
        module _ {component k off d : ℕ} (v : (component ≡ first_number file (first + first_number file i)) × (k ≡ first_number file i) × (off ≡ second_number file i)) (ed : d ≡ component) where
          pub component_lower : d < c
          component_lower = let r = stands in let l = r.lower in let e = r.component_is in let f = v.0 in omega arith

          pub component_few : d < 64
          component_few = let l = component_lower in let t = o.there in let f = few_components o in omega arith

          pub instance_few : k < 32
          instance_few = let r = stands in let m = r.named in let e = r.instance_is in let q = v.1 in let f = few_instances o in omega arith

          module _ (rows before : List ℕ) (counts : Counts (row_count D) c rows) (units : UnitsBefore D c (instance_count D c) before) where
            rows_count : get_or rows d 0 ≡ capped (row_count D (invoked D c g.number))
            rows_count = counts d component_lower ∙ rw (ed, v.0, stands.component_is)

            pub rows_small : get_or rows d 0 ≤ 4097
            rows_small = let e = rows_count in omega arith

            units_count : get_or before k 0 ≡ capped (units_before D c g.number)
            units_count =
                let e : k ≡ instance D c g.number = v.1 ∙ stands.instance_is in
                rw e (units (instance D c g.number) stands.named ∙ ap capped (units_of o.opened.lawful c (present o) g.number))

            pub going_more : {inputs z₁ s₁ : ℕ} {new : List Note} → inputs ≡ (row_in table d).inputs → (z₁ ≡ next_note z (get_or rows d 0)) × (new ≡ kept_note mid z (get_or rows d 0) (record { component = component; offset = off; units = get_or before k 0 })) → s₁ ≡ capped (s + get_or rows d 0)
                → Going D c a (i + (1 + inputs)) z₁ s₁ old new
            going_more {z₁ = z₁} {s₁ = s₁} {new = new} ei e es =
                let r = stands in
                let q : d ≡ invoked D c g.number = ed ∙ v.0 ∙ r.component_is in
                let l = component_lower in
                let p = present o in
                let f = inputs_are o d (omega arith) in
                let y = ap (input_count D) q in
                let x = r.next in
                record {
                  number = suc g.number;
                  place = omega arith;
                  noting = noting_more o.opened.lawful c (present o) g.number a z s old mid g.noting left (get_or rows d 0) (record { component = component; offset = off; units = get_or before k 0 })
                      rows_count (v.0 ∙ r.component_is) (v.2 ∙ r.offset_is) units_count free z₁ s₁ new e.0 e.1 es;
                }
