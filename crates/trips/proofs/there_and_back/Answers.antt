-- `trips::there_and_back`: what was packed and unpacked lies within what was lent for it.
use Rattle.std.proofs.Common.{◌≤◌, length, sym, arith, length-take-le}
use Rattle.packing.proofs.Fits.{pack_fits, unpack_fits}
use Rattle.trips.proofs.there_and_back.Goals as goal

pub slice_bounds-sound-end-2 : goal.slice_bounds-sound-end-2
slice_bounds-sound-end-2 c =
    let f : c.in_ok-k.k ≤ length c.args.file.now = pack_fits _ _ _ (sym c.in_ok-k.ensures.0) in
    sym (length-take-le _ _ (omega arith))

pub slice_bounds-unpack-end-2 : goal.slice_bounds-unpack-end-2
slice_bounds-unpack-end-2 c =
    let f : c.in_ok-k.k ≤ length c.args.file.now = pack_fits _ _ _ (sym c.in_ok-k.ensures.0) in
    sym (length-take-le _ _ (omega arith))

pub slice_bounds-eq-end-2 : goal.slice_bounds-eq-end-2
slice_bounds-eq-end-2 c =
    let f : c.in_ok-n.n ≤ length c.args.again.now = unpack_fits _ _ _ (sym c.in_ok-n.ensures.0) in
    sym (length-take-le _ _ (omega arith))
