-- Both loops of `fnv::hash`: hashing what is left from `h` on gives the hash of the whole.
use Rattle.std.proofs.Common.{◌*◌, ◌+◌, ◌≡◌, drop}
use Rattle.fnv.specs.Fnv.{hash_from, hash}
use Rattle.fnv.proofs.hash.Given as goal

abbrev pub invariant-loop-k : goal.invariant-loop-k
invariant-loop-k l = hash_from l.h (drop (64 * l.k) l.s) ≡ hash l.s

abbrev pub invariant-loop-b : goal.invariant-loop-b
invariant-loop-b l = hash_from l.h (drop (64 * l.turns + l.b-index) l.s) ≡ hash l.s
