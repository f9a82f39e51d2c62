-- `fnv::hash_block`: after seven turns 448 bytes are hashed, the last sixty are written out, and nothing is left.
use Rattle.std.proofs.Common.{◌*◌, ◌≡◌, arith}
use Rattle.fnv.proofs.Steps.{hash_end}
use Rattle.fnv.proofs.hash_block.Goals as goal

pub returns : goal.returns
returns c =
    let e : 64 * c.loop-k.k ≡ 448 = omega arith in
    cc (hash_end c.args.s.now c.four-3.result 508 (omega arith), rw e at c.loop-k.invariant)
