-- Each turn carries `Holding` on.
use Rattle.verdict.proofs.Holding.{begins_placed, goes_on}
use Rattle.verdict.proofs.hold.Goals as goal

pub loop-next-init : goal.loop-next-init
loop-next-init c = begins_placed c.args.file.now c.args.table.now c.args.rows.now c.args.first c.requires

pub loop-next-preserved : goal.loop-next-preserved
loop-next-preserved c =
    let h = rw c.in-Some.is at c.loop-next.invariant in
    goes_on c.args.file.now c.args.table.now c.in-Some.w c.loop-next.rows h.fits c.row.ensures c.put_row.ensures h.so_far _ c.next_wanted-next.ensures
