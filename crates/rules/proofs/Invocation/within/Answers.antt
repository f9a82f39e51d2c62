-- What the least and the greatest offset keep, every pair keeps.
use Rattle.std.proofs.Common.{ℕ, ◌&&◌, ◌+◌, ◌≡◌, ◌≤◌, true, leb, rules, arith, sym, ◌∙◌}
use Rattle.std.proofs.lemmas.Bool.Decides.{leb_tells}
use Rattle.rules.proofs.Pairs.{all_within, all_places}
use Rattle.rules.proofs.Invocation.within.Goals as goal

both : (a b x y : ℕ) → leb a b && leb x y ≡ true → (a ≤ b) × (x ≤ y)
both a b x y e = (grind (arith, leb_tells), grind (arith, leb_tells))

pub returns-then-early-late : goal.returns-then-early-late
returns-then-early-late c =
    let a = c.args.self in
    let (early, late) = both (c.from.result + c.from-2.result) (c.from-5.result + c.from-6.result) (c.from-7.result + c.from-8.result) (c.from-3.result + c.from-4.result) c.if-early-late.true in
    sym (all_within a.instances.now a.offsets.now a.count a.instance a.least a.greatest a.known a.offset a.delay c.args.delay (omega arith) (omega arith))

pub returns : goal.returns
returns c =
    let a = c.args.self in
    c.each.ensures (λ o. leb (a.offset + a.delay) (o + c.args.delay) && leb (o + a.delay) (a.offset + c.args.delay)) (λ o b l p. search rules)
    ∙ all_places a.instances.now a.offsets.now a.count a.instance a.least a.greatest a.known (λ o. leb (a.offset + a.delay) (o + c.args.delay) && leb (o + a.delay) (a.offset + c.args.delay)) a.room
