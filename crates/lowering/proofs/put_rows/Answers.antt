-- The three parts, one behind the other, are all rows.
use Rattle.std.proofs.Common.{arith}
use Rattle.control.proofs.Called.{last_below, few_ports}
use Rattle.lowering.proofs.Parts.{rows_total, connections_after, parts_are}
use Rattle.lowering.proofs.put_rows.Goals as goal

pub split_at_mut-first-requires : goal.split_at_mut-first-requires
split_at_mut-first-requires c =
    let t = rows_total c.requires.0 in
    omega (arith, c.requires.1)

pub overflow_sub-b : goal.overflow_sub-b
overflow_sub-b c = connections_after c.requires.0

pub overflow_mul-b : goal.overflow_mul-b
overflow_mul-b c =
    let a = last_below c.requires.0 in
    omega arith

pub split_at_mut-calls-requires : goal.split_at_mut-calls-requires
split_at_mut-calls-requires c =
    let t = rows_total c.requires.0 in
    omega (arith, c.requires.1)

pub overflow_cast-b : goal.overflow_cast-b
overflow_cast-b c =
    let a = last_below c.requires.0 in
    omega arith

pub put_outputs-requires : goal.put_outputs-requires
put_outputs-requires c =
    let t = rows_total c.requires.0 in
    let a = last_below c.requires.0 in
    ((few_ports c.requires.0).1, omega arith, omega (arith, c.requires.1))

pub returns : goal.returns
returns c = rw (c.write.ensures, c.states.ensures, c.put_invocations.ensures, c.put_outputs.ensures) (parts_are c.requires.0)
