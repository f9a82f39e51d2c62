-- `blocks::sound_blocks`: the first block that fails refuses the file, and past the last one its count is known.
use Rattle.std.proofs.Common.{sym, ◌∙◌}
use Rattle.blocks.specs.File.{record_count}
use Rattle.blocks.proofs.Laws.{sound_end, sound_check, sound_header, sound_more}
use Rattle.blocks.proofs.sound_blocks.Goals as goal

pub returns-then-not-check_right : goal.returns-then-not-check_right
returns-then-not-check_right c =
    rw c.at.ensures (sym (sound_check c.args.file.now c.loop-b.b c.loop-b-test.true (cc)) ∙ c.loop-b.invariant)

pub returns-then-not-header_right : goal.returns-then-not-header_right
returns-then-not-header_right c =
    rw c.at-then-not-header_right.ensures (sym (sound_header c.args.file.now c.loop-b.b c.loop-b-test.true (cc) (cc)) ∙ c.loop-b.invariant)

pub loop-b-preserved : goal.loop-b-preserved
loop-b-preserved c =
    sym (sound_more c.args.file.now c.loop-b.b c.loop-b-test.true (cc) (cc)) ∙ c.loop-b.invariant

pub returns : goal.returns
unfolding record_count
returns c = rw c.from.ensures (sym (sound_end c.args.file.now c.loop-b.b c.loop-b-test.false) ∙ c.loop-b.invariant)
