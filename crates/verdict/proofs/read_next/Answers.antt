-- The rows of the instances ahead may be handed to `hold`, and what `read_component` reads beside them is the next component.
use Rattle.std.proofs.Common.{◌-◌, replicate, refl, sym, subst}
use Rattle.component.specs.Component.{HoldsRows}
use Rattle.verdict.proofs.Handed.{few_placed, held_placed, for_first}
use Rattle.verdict.proofs.read_next.Goals as goal

pub hold-requires : goal.hold-requires
hold-requires c =
    let a = c.args in
    let ahead = c.instances_ahead in
    (ahead.ensures.0, for_first ahead.result c.requires.0, few_placed a.records.file.now a.records.count a.q.at ahead.result ahead.ensures.1 ahead.ensures.2)

pub returns : goal.returns
returns c =
    let a = c.args in
    let ahead = c.instances_ahead in
    let read = c.read_component.ensures in
    (read.0, λ rows shows. read.1 rows (subst (HoldsRows a.records.file.now a.records.count rows a.q.at (a.q.count - 1)) (sym c.hold.ensures) (held_placed a.records.file.now a.records.count a.q.at ahead.result ahead.ensures.1 ahead.ensures.2 a.table.now (replicate 160 0) rows (a.q.count - 1) refl shows)))
