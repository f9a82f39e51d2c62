-- What is unpacked fits the buffer, so the part that is shown lies within it.
use Rattle.std.proofs.Common.{arith, sym}
use Rattle.std.proofs.lemmas.List.{length-take-le}
use Rattle.packing.proofs.Fits.{unpack_fits}
use Rattle.show.proofs.show.Goals as goal

pub slice_bounds-list-end : goal.slice_bounds-list-end
slice_bounds-list-end c = omega (arith, unpack_fits _ _ _ (sym c.in-Ok.ensures.0))

pub slice_bounds-answer-end : goal.slice_bounds-answer-end
slice_bounds-answer-end c = sym (length-take-le _ _ (omega (arith, unpack_fits _ _ _ (sym c.in-Ok.ensures.0))))
