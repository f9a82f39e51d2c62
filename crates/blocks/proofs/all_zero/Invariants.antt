-- Both loops of `blocks::all_zero`: what is left decides for the whole.
use Rattle.std.proofs.Common.{◌+◌, ◌*◌, ◌≡◌, drop}
use Rattle.numbers.specs.Numbers.{all_zero}
use Rattle.blocks.proofs.all_zero.Given as goal

abbrev pub invariant-loop-k : goal.invariant-loop-k
invariant-loop-k l = all_zero (drop (4 * l.k) l.s) ≡ all_zero l.s

abbrev pub invariant-loop-b : goal.invariant-loop-b
invariant-loop-b l = all_zero (drop (4 * l.turns + l.b-index) l.s) ≡ all_zero l.s
