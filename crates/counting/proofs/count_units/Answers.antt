-- While an instance is left, its record lies in the file and its component is lower.
use Rattle.std.proofs.Common.{ℕ, ◌+◌, ◌-◌, ◌≤◌, ◌<◌, ◌≡◌, ◌∙◌, List, get_or, arith}
use Rattle.timeline.specs.Design.{made_of, instance_count}
use Rattle.timeline.specs.Flat.{unit_count}
use Rattle.reader.specs.Rows.{row_in}
use Rattle.groups.specs.Groups.{design_of, Lies, first_number, past_ports, past_instances}
use Rattle.expansion.specs.Noted.{capped}
use Rattle.counting.specs.Known.{OpenedAt, Counts}
use Rattle.counting.proofs.Places.{present, few_components, instance_read, instance_lower, few_instances, begins, instances_asked, instances_pass}
use Rattle.counting.proofs.Turns.{counted_none, counted_more, counted_all}
use Rattle.counting.proofs.count_units.Goals as goal

module _ {file table : List ℕ} {components n c first end : ℕ} (o : OpenedAt file table components n c) (ef : first ≡ past_ports (row_in table c)) (ee : end ≡ past_instances file (n - first) first) (i : ℕ) (g : first ≤ i) (h : i < end) where
  left : i - first < instance_count (design_of file n) c
  left = let e = instances_pass o ef ee in omega arith

  stands : Lies file i × (first_number file i ≡ made_of (design_of file n) c (i - first))
  stands = let e : first + (i - first) ≡ i = omega arith in rw e at (instance_read o (begins o ef) (i - first) left)

  -- The component of the instance, as it was read.
  module _ {d : ℕ} (ed : d ≡ first_number file i) where
    lower : d < c
    lower = let e = stands.1 in let l = instance_lower o (i - first) left in omega arith

    below : d < 64
    below = let l = lower in let f = few_components o in let t = o.there in omega arith

    units_are : (units : List ℕ) → Counts (unit_count (design_of file n)) c units → get_or units d 0 ≡ capped (unit_count (design_of file n) (made_of (design_of file n) c (i - first)))
    units_are units k = let e : d ≡ made_of (design_of file n) c (i - first) = ed ∙ stands.1 in k d lower ∙ rw e

pub past_instances-end-requires : goal.past_instances-end-requires
past_instances-end-requires c = instances_asked c.requires.0 c.past_ports-first.ensures

pub loop-i-init : goal.loop-i-init
loop-i-init c =
    let z : c.past_ports-first.result - c.past_ports-first.result ≡ 0 = omega arith in
    rw z (counted_none _ c.args.c c.args.before.now c.requires.3)

pub bounds-before-i : goal.bounds-before-i
bounds-before-i c =
    let l = left c.requires.0 c.past_ports-first.ensures c.past_instances-end.ensures c.loop-i.i c.loop-i.auto.i c.loop-i-test.true in
    let f = few_instances c.requires.0 in
    omega arith

pub component_at-requires : goal.component_at-requires
component_at-requires c = (stands c.requires.0 c.past_ports-first.ensures c.past_instances-end.ensures c.loop-i.i c.loop-i.auto.i c.loop-i-test.true).0

pub bounds-units-component : goal.bounds-units-component
bounds-units-component c =
    below c.requires.0 c.past_ports-first.ensures c.past_instances-end.ensures c.loop-i.i c.loop-i.auto.i c.loop-i-test.true (c.from-component.ensures ∙ c.component_at.ensures)

pub together-sum-requires : goal.together-sum-requires
together-sum-requires c =
    let e = units_are c.requires.0 c.past_ports-first.ensures c.past_instances-end.ensures c.loop-i.i c.loop-i.auto.i c.loop-i-test.true (c.from-component.ensures ∙ c.component_at.ensures) c.args.units.now c.requires.2 in
    let s = c.loop-i.invariant.sum_is in
    (omega arith, omega arith)

pub loop-i-preserved : goal.loop-i-preserved
loop-i-preserved c =
    let e : c.loop-i.i + 1 - c.past_ports-first.result ≡ c.loop-i.i - c.past_ports-first.result + 1 = omega (arith, c.loop-i.auto.i) in
    rw e (
    counted_more
    c.loop-i.invariant
    (left c.requires.0 c.past_ports-first.ensures c.past_instances-end.ensures c.loop-i.i c.loop-i.auto.i c.loop-i-test.true)
    (few_instances c.requires.0)
    (units_are c.requires.0 c.past_ports-first.ensures c.past_instances-end.ensures c.loop-i.i c.loop-i.auto.i c.loop-i-test.true (c.from-component.ensures ∙ c.component_at.ensures) c.args.units.now c.requires.2)
    c.together-sum.ensures)

pub returns : goal.returns
returns c =
    let e = instances_pass c.requires.0 c.past_ports-first.ensures c.past_instances-end.ensures in
    let f = c.loop-i.invariant.few in
    counted_all c.requires.0.opened.lawful c.args.c (present c.requires.0) c.requires.1 c.loop-i.invariant (omega arith)
