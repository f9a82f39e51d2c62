-- Whether the component is there and built is answered first, and after it the room; the writing is `put_rows`.
use Rattle.std.proofs.Common.{ap, length, arith, length-take}
use Rattle.answers.specs.Answer.{accepted}
use Rattle.control.proofs.Called.{last_below}
use Rattle.lowering.proofs.Answers.{absent, short, fits, count_is, rows_written}
use Rattle.lowering.proofs.Parts.{rows_total, connections_after}
use Rattle.lowering.proofs.lower_opened.Goals as goal

pub returns-in_default : goal.returns-in_default
returns-in_default c =
    let e = absent _ c.args.asked (length c.args.out.now) c.in_default.ensures in
    (rw (e, c.at-in_default.ensures), rw e)

pub overflow_sub-count : goal.overflow_sub-count
overflow_sub-count c = connections_after c.in-Some.ensures.0

pub overflow_add-count : goal.overflow_add-count
overflow_add-count c =
    let a = last_below c.in-Some.ensures.0 in
    omega arith

pub overflow_add-count-2 : goal.overflow_add-count-2
overflow_add-count-2 c =
    let a = last_below c.in-Some.ensures.0 in
    omega arith

pub overflow_mul-count : goal.overflow_mul-count
overflow_mul-count c =
    let a = last_below c.in-Some.ensures.0 in
    omega arith

pub returns-then-out-count : goal.returns-then-out-count
returns-then-out-count c =
    let b = c.in-Some.ensures in
    let k = count_is b.0 b.1 b.2 c.from.result c.from.ensures in
    let e = short b.0 b.1 b.2 (length c.args.out.now) (omega arith) in
    (rw (e, c.at-then-out-count.ensures), rw e)

pub put_rows-requires : goal.put_rows-requires
put_rows-requires c =
    let t = rows_total c.in-Some.ensures.0 in
    (c.in-Some.ensures.0, simp length-take (omega arith))

pub returns : goal.returns
returns c =
    let b = c.in-Some.ensures in
    let k = count_is b.0 b.1 b.2 c.from.result c.from.ensures in
    let e = fits b.0 b.1 b.2 (length c.args.out.now) (omega arith) in
    (rw e (ap accepted k), rw e (rows_written b.0 b.1 b.2 c.from.result c.from.ensures c.put_rows.new.out c.args.out.now c.put_rows.ensures))
