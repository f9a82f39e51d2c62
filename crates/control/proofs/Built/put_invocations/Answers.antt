use Rattle.std.proofs.Common.{rules, ◌≡◌, refl, ◌+◌, ◌-◌, ◌*◌, length-take, length-drop, arith}
use Rattle.timetable.specs.Bytes.{rows_bytes}
use Rattle.rows.proofs.Laws.{rows_end}
use Rattle.control.specs.Stands.{rows_called}
use Rattle.control.proofs.Called.{next_range, next_ends, next_begins, next_use, next_record, next_before, next_same, none_left, none_after}
use Rattle.control.proofs.Written.{calls_from, call_more}
use Rattle.control.proofs.Built.put_invocations.Goals as goal

pub loop-u-init : goal.loop-u-init
unfolding rows_bytes
loop-u-init c =
    let e = c.into_iter-u-iterator.ensures.into_iter_gives in
    let s = c.uses-u-items.ensures in
    let z : 16 * (c.args.self.invocations - c.args.self.invocations) ≡ 0 = omega arith in
    record {
      may = rw e s.0;
      same = rw e s.1;
      written = rw (e, s.2, s.3, z) refl;
    }

pub overflow_sub-at : goal.overflow_sub-at
overflow_sub-at c =
    let v = c.loop-u.invariant in
    let a = calls_from c.requires.0 (next_begins v.same v.may) in
    let e = next_record v.same v.may c.in-Some.ensures.steps in
    omega arith

pub slice_bounds-put_invocation-end : goal.slice_bounds-put_invocation-end
slice_bounds-put_invocation-end c =
    let v = c.loop-u.invariant in
    let k = c.in-Some.ensures.steps in
    let a = calls_from c.requires.0 (next_begins v.same v.may) in
    let e = next_record v.same v.may k in
    let l = next_ends v.same v.may k in
    omega (arith, c.requires.1)

pub put_invocation-requires : goal.put_invocation-requires
put_invocation-requires c =
    let v = c.loop-u.invariant in
    let k = c.in-Some.ensures.steps in
    let a = calls_from c.requires.0 (next_begins v.same v.may) in
    let e = next_record v.same v.may k in
    let l = next_ends v.same v.may k in
    (next_range v.same v.may k, simp (length-take, length-drop) (omega (arith, c.requires.1)))

pub loop-u-preserved : goal.loop-u-preserved
loop-u-preserved c =
    let v = c.loop-u.invariant in
    let k = c.in-Some.ensures.steps in
    let b = c.args.self in
    let s = c.loop-u.u-iterator in
    let n = c.from-in-loop-u.result in
    let q = next_record v.same v.may k in
    let a : 16 * (c.from.result - b.invocations) ≡ 16 * (s.record - b.invocations) = omega arith in
    let z : 16 * (c.next.new.self.record - b.invocations) ≡ 16 * (s.record + (1 + n) - b.invocations) = let r = k.behind in omega arith in
    let e = call_more c.requires.0 (next_begins v.same v.may) (next_before v.same v.may k) (next_use v.same v.may k) n (16 * (c.from.result - b.invocations)) c.args.out.now c.loop-u.out c.put_invocation.new.out c.from-in-loop-u.ensures a (rw a v.written) c.put_invocation.ensures in
    record { may = search rules; same = next_same v.same v.may k; written = rw (k.next, z) e }

pub returns : goal.returns
returns c =
    let v = c.loop-u.invariant in
    let e = none_left v.same v.may c.in-None.ensures.steps.1 in
    let l = none_after v.same v.may c.in-None.ensures.steps.0 in
    rw (← e) (rows_end (rows_called c.args.self c.loop-u.u-iterator.number) c.args.out.now c.loop-u.out (16 * (c.loop-u.u-iterator.record - c.args.self.invocations)) (omega (arith, c.requires.1)) v.written)
