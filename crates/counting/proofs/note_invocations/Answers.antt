-- What stands at the record at hand, and what the loop then knows: the laws of Calls.
use Rattle.std.proofs.Common.{ap, ◌∙◌, refl, arith}
use Rattle.reading.specs.Reader.{Row}
use Rattle.counting.proofs.Places.{few_components, instances_asked}
use Rattle.counting.proofs.Calls.{connections_asked, going_none, going_end, stands, free, sum_small, component_few, instance_few, rows_small, going_more}
use Rattle.counting.proofs.note_invocations.Goals as goal

pub past_invocations-last-requires : goal.past_invocations-last-requires
past_invocations-last-requires c = connections_asked c.requires.0 c.requires.1

pub past_instances-i-requires : goal.past_instances-i-requires
past_instances-i-requires c = instances_asked c.requires.0 c.past_ports-first.ensures

pub loop-i-init : goal.loop-i-init
loop-i-init c = record {
  going = going_none c.requires.0 c.requires.1 c.past_ports-first.ensures c.past_invocations-last.ensures c.args.notes.now.noted c.past_instances-i.ensures c.requires.4 c.requires.5;
  ends_kept = refl;
}

pub invocation_at-v-requires : goal.invocation_at-v-requires
invocation_at-v-requires c =
    let r = stands c.requires.0 c.requires.1 c.past_ports-first.ensures c.past_invocations-last.ensures c.loop-i.invariant.going c.loop-i-test.true in
    (r.there, r.instance_there)

pub bounds-rows-component : goal.bounds-rows-component
bounds-rows-component c =
    component_few c.requires.0 c.requires.1 c.past_ports-first.ensures c.past_invocations-last.ensures c.loop-i.invariant.going c.loop-i-test.true c.invocation_at-v.ensures c.from-component.ensures

pub bounds-before-v : goal.bounds-before-v
bounds-before-v c =
    instance_few c.requires.0 c.requires.1 c.past_ports-first.ensures c.past_invocations-last.ensures c.loop-i.invariant.going c.loop-i-test.true c.invocation_at-v.ensures c.from-component.ensures

pub keep_note-end-requires : goal.keep_note-end-requires
keep_note-end-requires c =
    free c.requires.0 c.requires.1 c.past_ports-first.ensures c.past_invocations-last.ensures c.loop-i.invariant.going c.loop-i-test.true

pub together-sum-requires : goal.together-sum-requires
together-sum-requires c = (
  sum_small c.requires.0 c.requires.1 c.past_ports-first.ensures c.past_invocations-last.ensures c.loop-i.invariant.going c.loop-i-test.true,
  rows_small c.requires.0 c.requires.1 c.past_ports-first.ensures c.past_invocations-last.ensures c.loop-i.invariant.going c.loop-i-test.true c.invocation_at-v.ensures c.from-component.ensures c.args.rows.now c.args.before.now c.requires.2 c.requires.3,
)

pub row-requires : goal.row-requires
row-requires c =
    let l = component_few c.requires.0 c.requires.1 c.past_ports-first.ensures c.past_invocations-last.ensures c.loop-i.invariant.going c.loop-i-test.true c.invocation_at-v.ensures c.from-component.ensures in
    let t = c.requires.0.there in
    let f = few_components c.requires.0 in
    omega arith

pub overflow_add-i-in-loop-i : goal.overflow_add-i-in-loop-i
overflow_add-i-in-loop-i c =
    let r = stands c.requires.0 c.requires.1 c.past_ports-first.ensures c.past_invocations-last.ensures c.loop-i.invariant.going c.loop-i-test.true in
    omega (arith, r.there.0, c.from.ensures, c.row.type_inv)

pub loop-i-preserved : goal.loop-i-preserved
loop-i-preserved c = record {
  going = going_more c.requires.0 c.requires.1 c.past_ports-first.ensures c.past_invocations-last.ensures c.loop-i.invariant.going c.loop-i-test.true c.invocation_at-v.ensures c.from-component.ensures c.args.rows.now c.args.before.now c.requires.2 c.requires.3
      (c.from.ensures ∙ ap (λ (w : Row). w.inputs) c.row.ensures) (c.keep_note-end.ensures.0, c.keep_note-end.ensures.1) c.together-sum.ensures;
  ends_kept = c.keep_note-end.ensures.2 ∙ c.loop-i.invariant.ends_kept;
}

pub returns : goal.returns
returns c = (
  going_end c.requires.0 c.requires.1 c.past_ports-first.ensures c.past_invocations-last.ensures c.loop-i.invariant.going c.loop-i-test.false,
  c.loop-i.invariant.ends_kept,
)
