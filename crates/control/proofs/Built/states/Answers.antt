use Rattle.std.proofs.Common.{rules, arith}
use Rattle.control.proofs.Reached.{reached_own, reached_next, reached_last}
use Rattle.control.proofs.Called.{first_below, few_ports, own_lasts, called_there, use_lasts, next_range, next_outputs, next_lasting, next_begins, next_use, next_before, next_same, none_left}
use Rattle.control.proofs.Built.states.Goals as goal

pub lasting-most-requires : goal.lasting-most-requires
lasting-most-requires c =
    let a = few_ports c.requires in
    let k = first_below c.requires in
    omega (arith, a.0, a.1)

pub loop-u-init : goal.loop-u-init
loop-u-init c =
    let e = c.into_iter-u-iterator.ensures.into_iter_gives in
    let s = c.uses-u-items.ensures in
    record {
      may = rw e s.0;
      same = rw e s.1;
      reached = rw (e, s.2, c.lasting-most.ensures) (reached_own _ _ _ (own_lasts c.requires));
    }

pub overflow_add-u : goal.overflow_add-u
overflow_add-u c =
    let v = c.loop-u.invariant in
    let k = c.in-Some.ensures.steps in
    let r = next_range v.same v.may k in
    let b = next_outputs v.same v.may k in
    omega (arith, r.few)

pub lasting-requires : goal.lasting-requires
lasting-requires c =
    let v = c.loop-u.invariant in
    let k = c.in-Some.ensures.steps in
    let r = next_range v.same v.may k in
    let b = next_outputs v.same v.may k in
    omega (arith, r.few, r.first)

pub overflow_add-u-in-loop-u : goal.overflow_add-u-in-loop-u
overflow_add-u-in-loop-u c =
    let v = c.loop-u.invariant in
    let k = c.in-Some.ensures.steps in
    let r = next_range v.same v.may k in
    let b = next_lasting v.same v.may k in
    omega (arith, r.offset)

pub loop-u-preserved : goal.loop-u-preserved
loop-u-preserved c =
    let v = c.loop-u.invariant in
    let k = c.in-Some.ensures.steps in
    let w = next_begins v.same v.may in
    let t = next_before v.same v.may k in
    let g = next_use v.same v.may k in
    record {
      may = search rules;
      same = next_same v.same v.may k;
      reached = rw (k.next, c.max-most.ensures, c.lasting.ensures, g.offset_is) (reached_next _ _ c.loop-u.u-iterator.number c.loop-u.most _ (called_there c.requires w t) v.reached (use_lasts c.requires w t g));
    }

pub returns : goal.returns
returns c = reached_last _ _ _ c.loop-u.most (none_left c.loop-u.invariant.same c.loop-u.invariant.may c.in-None.ensures.steps.1) c.loop-u.invariant.reached
