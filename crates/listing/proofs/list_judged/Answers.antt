-- An accepted file is open, with the rows that were handed on; a refusal is passed on.
use Rattle.std.proofs.Common.{refl, ap, sym, ◌∙◌, ◌≡◌, Err, rules, arith}
use Rattle.answers.specs.Answer.{answer}
use Rattle.numbers.specs.Numbers.{Bytes}
use Rattle.groups.proofs.Laws.{opened, component_total}
use Rattle.listing.specs.Answer.{list_answer, list_left}
use Rattle.listing.proofs.list_judged.Goals as goal

pub list_opened-requires : goal.list_opened-requires
list_opened-requires c =
    let k = c.in_ok-counts.counts in
    let q = ap answer c.in_ok-counts.was in
    let e = sym c.requires.2.1 ∙ q in
    let small : Bytes c.args.file.now = λ j l. omega (arith, c.type_inv.file j) in (
      opened c.args.file.now c.args.o.rows c.requires.2.0 k small e (rw q at c.requires.1) c.requires.0,
      sym (component_total c.args.file.now c.args.o.rows c.requires.2.0 k small e),
    )

pub returns-in_err-counts : goal.returns-in_err-counts
unfolding list_answer list_left
returns-in_err-counts c =
    λ lent w. let e = sym w ∙ ap answer c.in_err-counts.was in (rw e (let k : c.from_residual.result ≡ Err c.in_err-counts.field-0.0 = search rules in rw k refl), rw e refl)

pub returns : goal.returns
unfolding list_answer list_left
returns c =
    λ lent w. let e = sym w ∙ ap answer c.in_ok-counts.was in (rw e c.list_opened.ensures.0, rw e c.list_opened.ensures.1)
