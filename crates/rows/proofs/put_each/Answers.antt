use Rattle.std.proofs.Common.{rules, ◌≡◌, refl, ap, ◌∙◌, ◌*◌, arith}
use Rattle.timetable.specs.Bytes.{row_bytes, rows_bytes}
use Rattle.rows.proofs.Laws.{rows_end, listed_more}
use Rattle.timetable.specs.Lists.{list_below}
use Rattle.rows.proofs.put_each.Goals as goal

pub loop-i-init : goal.loop-i-init
unfolding rows_bytes
loop-i-init g c = λ f m. refl

pub loop-i-preserved : goal.loop-i-preserved
loop-i-preserved g c = λ f m.
    let i = c.loop-i.i in
    let a : 16 * c.from-at.result ≡ 16 * i = omega arith in
    listed_more f i (16 * c.from-at.result) c.args.out.now c.loop-i.out c.write.new.out a (rw a (c.loop-i.invariant f m)) (c.write.ensures ∙ ap row_bytes (m i _ (omega arith) (search rules)))

pub returns : goal.returns
returns g c = λ f m.
    let e : c.loop-i.i ≡ c.args.n = omega arith in
    rw e at (rows_end (list_below c.loop-i.i f) c.args.out.now c.loop-i.out (16 * c.loop-i.i) (omega arith) (c.loop-i.invariant f m))
