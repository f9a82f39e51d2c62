-- The bytes copied to the front are those of the rows.
use Rattle.std.proofs.Common.{◌≡◌, ◌-◌, arith, refl}
use Rattle.std.proofs.Math.ListN.{replicate}
use Rattle.expansion.specs.Notes.{listed}
use Rattle.expansion.proofs.Calls.{front}
use Rattle.expansion.proofs.write.Goals as goal

pub returns : goal.returns
returns c =
    let e : c.args.size - 0 ≡ c.args.size = omega arith in
    rw (
      c.copy_from_slice.ensures.after,
      e,
      front (listed c.args.notes.now.noted c.args.notes.now.ends c.args.c 0 0) c.expand.result (replicate 32768 0) c.expand.new.out c.args.out.now c.args.size c.expand.ensures c.requires.1 c.requires.3,
    ) refl
