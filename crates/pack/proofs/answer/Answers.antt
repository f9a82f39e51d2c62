-- What is packed fits the buffer, so the written part lies within it.
use Rattle.std.proofs.Common.{arith, sym}
use Rattle.std.proofs.lemmas.List.{length-take-le}
use Rattle.packing.proofs.Fits.{pack_fits}
use Rattle.pack.proofs.answer.Goals as goal

pub slice_bounds-file-end : goal.slice_bounds-file-end
slice_bounds-file-end c = omega (arith, pack_fits _ _ _ (sym c.in-Ok.ensures.0))

pub slice_bounds-write_all-end : goal.slice_bounds-write_all-end
slice_bounds-write_all-end c = sym (length-take-le _ _ (omega (arith, pack_fits _ _ _ (sym c.in-Ok.ensures.0))))
