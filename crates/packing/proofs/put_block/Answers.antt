-- `packing::put_block`: five parts, each written behind the one before, are the block.
use Rattle.std.proofs.Common.{ℕ, ap, ◌∙◌, replicate}
use Rattle.numbers.specs.Numbers.{bytes}
use Rattle.fnv.specs.Fnv.{hash}
use Rattle.packing.proofs.Writes.{cleared, front_written, block_written}
use Rattle.packing.proofs.put_block.Goals as goal

pub returns : goal.returns
returns c =
    let b = c.args.number in
    let last = c.args.last in
    let part = c.args.records.now in
    let o = c.args.out.now in
    let few = c.requires.0 in
    let room = c.requires.1 in
    let number = c.write.new.out in
    let count = c.put_count.new.out in
    let records = c.copy_from_slice.new.self in
    let zeros = c.fill.new.self in
    let check = c.write-2.new.out in
    let en = c.write.ensures in
    let ec = c.put_count.ensures in
    let er = c.copy_from_slice.ensures.after in
    let ez = c.fill.ensures.after (λ y e. e) ∙ ap (λ (k : ℕ). replicate k 0) (cleared b last part o few room number count records zeros check en ec er) in
    let ef = front_written b last part o few room number count records zeros check en ec er ez in
    block_written b last part o few room number count records zeros check en ec er ez (c.write-2.ensures ∙ ap (bytes 4) (c.hash-check.ensures ∙ ap hash ef))
