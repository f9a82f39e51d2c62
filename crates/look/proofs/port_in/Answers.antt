-- The place is eight bytes on, which the reads make up for.
use Rattle.std.proofs.Common.{◌≡◌, ◌+◌, length, arith}
use borrow.Author.Tests.{le-ltb}
use Rattle.look.specs.Look.{look_place, look}
use Rattle.look.proofs.port_in.Goals as goal

pub returns : goal.returns
unfolding look
returns c =
    let file = c.args.file.now in
    let at = c.min-at.result in
    let start : look_place file c.args.i + 2 ≡ at + 10 = omega (arith, c.min-at.ensures, c.block_of.ensures) in
    let end : look_place file c.args.i + 4 ≡ at + 12 = omega (arith, start) in
    let width : look_place file c.args.i + 6 ≡ at + 14 = omega (arith, start) in
    rw (le-ltb (length file) 24 (omega arith), start, end, width, c.read.ensures, c.read-2.ensures)
