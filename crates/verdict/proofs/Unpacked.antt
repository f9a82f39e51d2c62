-- The records of a file are the sixteens of the list that unpacking gives back.
-- Assumes nothing.
use Prim.Native.Nat.{ℕ, ◌*◌, ◌<◌}
use mathlib.Core.Path.{◌≡◌}
use mathlib.Core.List.{List}
use lib.ListN.{take, drop}
use borrow.Author.Tests.{lt-ltb}
use Rattle.answers.specs.Answer.{accepted}
use Rattle.blocks.specs.File.{sound, record_answer}
use Rattle.blocks.proofs.Accepted.{sound_blocks}
use Rattle.packing.specs.Packed.{unpacked}
use Rattle.packing.proofs.Lookup.{record_unpacked}
use Rattle.look.specs.Look.{sixteen}

pub sixteen_unpacked : (file : List ℕ) (n : ℕ) → sound file ≡ accepted n → (i : ℕ) → i < n → sixteen file i ≡ take 16 (drop (16 * i) (unpacked file))
unfolding record_answer
sixteen_unpacked file n e i l =
    let a : record_answer file i ≡ accepted tt = rw (e, lt-ltb i n l) in
    rw a at (record_unpacked file (sound_blocks file n e) i)
