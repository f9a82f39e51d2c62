-- `packing::put_records`: the used slots of one more block are written, and after the last one the whole list is.
use Rattle.std.proofs.Common.{◌<◌, refl, arith}
use Rattle.blocks.specs.File.{block_count}
use Rattle.packing.specs.Packed.{unpacked_to}
use Rattle.packing.proofs.Trips.{stretch_within}
use Rattle.packing.proofs.Writes.{unpack_more, unpack_done}
use Rattle.packing.proofs.put_records.Goals as goal

pub loop-b-init : goal.loop-b-init
unfolding unpacked_to
loop-b-init c = refl

pub slice_bounds-copy_from_slice-end : goal.slice_bounds-copy_from_slice-end
slice_bounds-copy_from_slice-end c = omega (arith, stretch_within c.args.file.now c.requires.0 c.loop-b.b (omega arith))

pub loop-b-preserved : goal.loop-b-preserved
loop-b-preserved c =
    let b = c.loop-b.b in
    let p : b < block_count c.args.file.now = omega arith in
    unpack_more c.args.file.now c.args.out.now c.requires.0 b p c.loop-b.out c.copy_from_slice.new.self c.from-used.result c.from-used.ensures c.loop-b.invariant c.copy_from_slice.ensures.after

pub returns : goal.returns
returns c = unpack_done c.args.file.now c.args.out.now c.loop-b.out c.loop-b.b c.requires.0 (omega arith) c.loop-b.invariant
