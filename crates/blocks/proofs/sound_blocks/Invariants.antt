-- The loop of `blocks::sound_blocks`: what the blocks left answer is what the whole file answers.
use Rattle.std.proofs.Common.{◌-◌, ◌/◌, ◌≡◌, length}
use Rattle.blocks.specs.File.{sound_from}
use Rattle.blocks.proofs.sound_blocks.Given as goal

abbrev pub invariant-loop-b : goal.invariant-loop-b
invariant-loop-b l = sound_from l.file (l.n - l.b) l.b ≡ sound_from l.file (length l.file / 512) 0
