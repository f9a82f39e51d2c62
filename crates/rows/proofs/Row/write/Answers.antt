use Rattle.std.proofs.Common.{◌≡◌, refl, ap, ◌∙◌, length, arith}
use Rattle.timetable.specs.Bytes.{number_bytes, row_bytes}
use Rattle.rows.proofs.Laws.{numbers_all}
use Rattle.rows.proofs.Row.write.Goals as goal

pub loop-i-init : goal.loop-i-init
unfolding number_bytes
loop-i-init c = refl

pub returns : goal.returns
unfolding row_bytes
returns c =
    let e : c.loop-i.i ≡ length c.numbers-numbers.result = omega arith in
    numbers_all c.numbers-numbers.result c.args.out.now c.loop-i.out (omega arith) (rw e at c.loop-i.invariant) ∙ ap number_bytes c.numbers-numbers.ensures
