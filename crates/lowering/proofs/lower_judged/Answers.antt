-- An accepted file is open, with the rows that were handed on; a refusal is passed on.
use Rattle.std.proofs.Common.{ap, sym, ◌∙◌, arith}
use Rattle.std.proofs.lemmas.Result.{err_from_is_err_and}
use Rattle.answers.specs.Answer.{answer}
use Rattle.numbers.specs.Numbers.{Bytes}
use Rattle.groups.proofs.Laws.{opened, component_total}
use Rattle.lowering.specs.Answer.{lowered}
use Rattle.lowering.proofs.lower_judged.Goals as goal

pub returns-in_err-counts : goal.returns-in_err-counts
unfolding lowered
returns-in_err-counts c = λ lent w.
    let e = sym w ∙ ap answer c.in_err-counts.was in
    let p = err_from_is_err_and c.from_residual.result c.from_residual.ensures.1 in
    (rw (p.1, p.2, e), rw e)

pub lower_opened-requires : goal.lower_opened-requires
lower_opened-requires c =
    let k = c.in_ok-counts.counts in
    let q = ap answer c.in_ok-counts.was in
    let e = sym c.requires.2.1 ∙ q in
    let small : Bytes c.args.file.now = λ j l. omega (arith, c.type_inv.file j) in
    let h = opened c.args.file.now c.args.o.rows c.requires.2.0 k small e (rw q at c.requires.1) c.requires.0 in
    (h, sym (component_total c.args.file.now c.args.o.rows c.requires.2.0 k small e))

pub returns : goal.returns
unfolding lowered
returns c = λ lent w.
    let e = sym w ∙ ap answer c.in_ok-counts.was in
    (rw e c.lower_opened.ensures.0, rw e c.lower_opened.ensures.1)
