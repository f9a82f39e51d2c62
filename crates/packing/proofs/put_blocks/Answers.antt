-- `packing::put_blocks`: one more block is written, and after the last one the whole file is.
use Rattle.std.proofs.Common.{◌+◌, ◌==◌, ◌∙◌, ap, refl, arith}
use Rattle.packing.specs.Packed.{filled, packed_to}
use Rattle.packing.proofs.Writes.{records_taken, pack_more, pack_done}
use Rattle.packing.proofs.put_blocks.Goals as goal

pub loop-b-init : goal.loop-b-init
unfolding packed_to
loop-b-init c = refl

pub loop-b-preserved : goal.loop-b-preserved
loop-b-preserved c =
    let list = c.args.list.now in
    let n = c.args.n in
    let b = c.loop-b.b in
    let e = c.put_block.ensures ∙ ap (filled b (b + 1 == n)) (records_taken list b c.min-end.result c.min-end.ensures) in
    pack_more list c.args.out.now n b c.loop-b.out c.put_block.new.out c.loop-b.invariant e

pub returns : goal.returns
returns c = pack_done c.args.list.now c.args.out.now c.loop-b.out c.args.n c.loop-b.b c.requires.0 (omega arith) c.loop-b.invariant
