-- How many records a sound file has.
-- Assumes nothing.
use Prim.Native.Nat.{ℕ, ◌-◌, ◌*◌, ◌/◌, ◌≤◌}
use mathlib.Core.Path.{◌≡◌}
use mathlib.Core.List.{List}
use native.Mathlib.Omega.{arith}
use lib.ListN.{length}
use Rattle.answers.specs.Answer.{accepted}
use Rattle.blocks.specs.File.{sound, block_count, record_count}
use Rattle.blocks.proofs.Accepted.{sound_blocks, sound_count, records_fit, in_block}

pub count_bounds : (file : List ℕ) (n : ℕ) → sound file ≡ accepted n → (1 ≤ n) × (n ≤ 3968) × (n ≤ 31 * (length file / 512))
unfolding record_count
count_bounds file n e =
    let s = sound_blocks file n e in
    let k = sound_count file n e in
    let m = records_fit file s in
    let a = s.allowed in
    let b = block_count file in
    let l = (s.right (b - 1) (omega arith)).head.count.least in
    let h = in_block file (b - 1) 4 (omega arith) in
    (omega arith, omega arith, omega arith)
