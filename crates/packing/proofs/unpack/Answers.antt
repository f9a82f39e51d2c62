-- `packing::unpack`: an accepted file is sound, and its records fit the room.
use Rattle.std.proofs.Common.{sym, refl, arith}
use Rattle.blocks.proofs.Accepted.{sound_blocks, sound_count}
use Rattle.packing.proofs.unpack.Goals as goal

pub put_records-requires : goal.put_records-requires
put_records-requires c =
    let e = sym c.in_ok-size.ensures in
    (sound_blocks _ _ e, refl, rw (← sound_count _ _ e) (omega arith))
