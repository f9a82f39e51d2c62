-- The answer and the bytes left, by the cases of Answered.
use Rattle.std.proofs.Common.{◌*◌, ◌<◌, length, ap, sym, ◌∙◌, arith}
use Rattle.counting.specs.Known.{design}
use Rattle.listing.proofs.Answered.{absent, no_room, fits_is, none_left, write_asked, some_left}
use Rattle.listing.proofs.list_opened.Goals as goal

pub returns-then-judged-asked : goal.returns-then-judged-asked
returns-then-judged-asked c =
    rw c.at.ensures (absent (design c.args.judged) c.args.asked c.args.out.now (let e = c.requires.1 in let l = c.if-judged-asked.true in omega arith))

pub returns-then-not-fits : goal.returns-then-not-fits
returns-then-not-fits c =
    let h : c.args.asked < length (design c.args.judged) = omega arith in
    rw c.at-then-not-fits.ensures (
    no_room (design c.args.judged) c.args.asked c.args.out.now h
    (sym (fits_is c.requires.0.lawful c.args.asked h c.count.ensures (length c.args.out.now)) ∙ sym c.fits.ensures ∙ c.if-not-fits.true))

pub returns-then-empty : goal.returns-then-empty
returns-then-empty c =
    let h : c.args.asked < length (design c.args.judged) = omega arith in
    none_left c.requires.0.lawful c.args.asked h c.count.ensures c.args.out.now (sym c.fits.ensures ∙ c.if-not-fits.false) c.if-empty.true

pub write-requires : goal.write-requires
write-requires c =
    let h : c.args.asked < length (design c.args.judged) = omega arith in
    write_asked c.requires.0.lawful c.args.asked h c.count.ensures c.args.out.now (sym c.fits.ensures ∙ c.if-not-fits.false) c.if-empty.false
    (8 * c.from.result) (ap (λ n. 8 * n) c.from.ensures)

pub returns : goal.returns
returns c =
    let h : c.args.asked < length (design c.args.judged) = omega arith in
    rw c.from-2.ensures (
    some_left c.requires.0.lawful c.args.asked h c.count.ensures c.args.out.now (sym c.fits.ensures ∙ c.if-not-fits.false) c.if-empty.false
    (8 * c.from.result) _ (ap (λ n. 8 * n) c.from.ensures) c.write.ensures)
