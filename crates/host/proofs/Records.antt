-- A record that is there has one of the numbers that a file can give.
-- Assumes nothing.
use Prim.Native.Nat.{ℕ, ◌<◌}
use mathlib.Core.Path.{◌≡◌, refl, sym}
use mathlib.Core.List.{List}
use native.Mathlib.Omega.{arith}
use Rattle.answers.specs.Answer.{Answer, accepted, refused, then}
use Rattle.answers.specs.Once.{apart}
use Rattle.blocks.specs.File.{present, sound, record_answer}
use Rattle.blocks.proofs.Accepted.{sound_blocks, record_within}

sound_first : (i : ℕ) (a : Answer ℕ) → then a (present i) ≡ accepted tt → (n : ℕ) × (a ≡ accepted n)
sound_first i (accepted n) e = (n, refl)
sound_first i (refused r) e = absurd (apart (sym e))

pub below_all_numbers : (file : List ℕ) (i : ℕ) → record_answer file i ≡ accepted tt → i < 3968
unfolding record_answer
below_all_numbers file i e =
    let q = sound_first i (sound file) e in
    let a = (sound_blocks file q.0 q.1).allowed in
    let w = record_within file i e in
    omega arith
