-- Each way that a record's turn goes: the next record, the next component, a refusal; and what the last record leaves.
-- Assumes nothing.
use Rattle.std.proofs.Common.{◌<◌, refl, sym, ◌∙◌, arith}
use Rattle.answers.specs.Once.{numbered}
use Rattle.records.specs.Says.{says}
use Rattle.look.specs.Look.{look}
use Rattle.reader.specs.Rows.{row}
use Rattle.reader.proofs.Class.{exact_row}
use Rattle.component.proofs.Inside.{kept_state, inside_first, noted_first}
use Rattle.component.proofs.Passing.{stops_here, room_left, ends_here, goes_here, all_short, all_whole, all_leads}
use Rattle.component.proofs.Ends.{component_of, part_of, whole_read, goes_read, opens}
use Rattle.component.proofs.read_component.Goals as goal

pub loop-p-init : goal.loop-p-init
loop-p-init c =
    let a = c.args in
    rw c.none-kept.ensures (inside_first a.records.file.now a.records.count a.q a.held.now c.requires.1 c.args.records.few c.requires.2, noted_first a.q (omega (arith, c.requires.1, c.args.records.few)) c.requires.2)

pub returns-in-Err : goal.returns-in-Err
returns-in-Err c =
    let l = c.loop-p in
    let x = c.record_at-x in
    (tt, λ rows g. stops_here l.invariant.0 c.loop-p-test.true c.args.records.few c.args.records.bytes (sym x.ensures.0) x.ensures.1 c.named.ensures.0 c.row_of-v.ensures l.r c.turn.new.kept c.in-Err.ensures.1 rows g (λ z. absurd (let m = numbered c.in-Err.fault in omega arith)) _ c.told.ensures)

pub returns-then-is_component : goal.returns-then-is_component
returns-then-is_component c =
    let a = c.args in
    let l = c.loop-p in
    let inside = l.invariant.0 in
    let x = c.record_at-x in
    let (k, d, e) = component_of (says x.result) (sym c.is_component.ensures ∙ c.if-is_component.true) in
    let small : d < 65536 = let r = rw e at x.ensures.1 in let m = r.1 in omega arith in
    let room = room_left inside c.loop-p-test.true c.args.records.few c.args.records.bytes (sym x.ensures.0) x.ensures.1 c.named.ensures.0 c.row_of-v.ensures c.in-Ok.turned c.turn.new.kept c.in-Ok.ensures.1 refl k d e in
    let ends = ends_here inside c.loop-p-test.true c.args.records.few c.args.records.bytes (sym x.ensures.0) x.ensures.1 c.named.ensures.0 c.row_of-v.ensures c.in-Ok.turned c.turn.new.kept c.in-Ok.ensures.1 refl k d e in
    ((inside.number, inside.fit.number, exact_row _ _ c.own_row.ensures), λ rows g. goes_read a.records.file.now a.records.count rows a.q l.r _ _ l.p k d (c.opened.ensures ∙ opens (says x.result) l.p a.q.count k d e) refl refl c.own_row.ensures inside.from c.loop-p-test.true room small (ends rows g))

pub loop-p-preserved : goal.loop-p-preserved
loop-p-preserved c =
    let l = c.loop-p in
    let x = c.record_at-x in
    let (y, e) = part_of (look c.args.records.file.now) (kept_state l.r (λ m. row c.row_of-v.result) l.kept) (says x.result) _ (sym c.is_component.ensures ∙ c.if-is_component.false) c.in-Ok.ensures.1.number_is refl in
    (goes_here l.invariant.0 c.loop-p-test.true c.args.records.few c.args.records.bytes (sym x.ensures.0) x.ensures.1 c.named.ensures.0 c.row_of-v.ensures c.in-Ok.turned c.turn.new.kept c.in-Ok.ensures.1 refl y e, c.in-Ok.ensures.0)

pub returns-then-may_end : goal.returns-then-may_end
returns-then-may_end c =
    let inside = c.loop-p.invariant.0 in
    let whole = all_whole inside c.loop-p-test.false c.requires.0 in
    let leads = all_leads inside c.loop-p-test.false c.requires.0 in
    ((inside.number, inside.fit.number, exact_row _ _ c.own_row-then-may_end.ensures), λ rows g. whole_read c.args.records.file.now c.args.records.count rows c.args.q c.loop-p.r _ _ (whole rows g (sym c.may_end.ensures ∙ c.if-may_end.true)) (leads rows g) refl (inside.counted (omega (arith, c.requires.0, c.loop-p-test.false))) c.own_row-then-may_end.ensures)

pub returns : goal.returns
returns c = (tt, λ rows g. all_short c.loop-p.invariant.0 c.loop-p-test.false c.requires.0 rows g (sym c.may_end.ensures ∙ c.if-may_end.false) _ c.told-2.ensures)
