use Rattle.std.proofs.Common.{rules}
use Rattle.timetable.specs.Bytes.{rows_bytes}
use Rattle.rows.specs.Rows.{guard_row, invocation_rows}
use Rattle.rows.proofs.put_invocation.Goals as goal

pub returns : goal.returns
unfolding invocation_rows rows_bytes
returns c =
    let e = c.put_each.ensures (guard_row c.args.file.now c.args.u) (λ i row l made. search rules) in
    rw (c.write.ensures, e)
