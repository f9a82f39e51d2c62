-- Three pastes, one behind the other, are one.
use Rattle.std.proofs.Common.{refl, arith}
use Rattle.expansion.proofs.Pasted.{row_put}
use Rattle.expansion.proofs.put_row.Goals as goal

pub returns : goal.returns
returns c = record {
  behind = refl;
  bytes = row_put c.args.out.now c.args.at c.args.cycle c.args.unit c.args.c (omega arith) c.write.ensures c.write-2.ensures c.write-3.ensures;
}
