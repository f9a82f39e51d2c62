-- `fnv::check`: a block shorter than 508 bytes is all of its first 508.
use Rattle.std.proofs.Common.{arith}
use Rattle.std.proofs.lemmas.List.{take_all}
use Rattle.fnv.proofs.check.Goals as goal

pub returns : goal.returns
returns c = cc (take_all 508 c.args.block.now (omega arith))
