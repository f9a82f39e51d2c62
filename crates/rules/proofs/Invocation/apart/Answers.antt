-- Before the least offset or after the greatest every pair stands apart; between them what one place tells is the test of it.
use Rattle.std.proofs.Common.{◌||◌, ◌+◌, leb, ltb, rules, arith, sym, ◌∙◌}
use Rattle.rules.proofs.Pairs.{before_all, after_all, pair_same, every_as, all_places}
use Rattle.rules.proofs.Invocation.apart.Goals as goal

pub returns-then-k-d : goal.returns-then-k-d
returns-then-k-d c =
    let a = c.args.self in
    sym (before_all a.instances.now a.offsets.now a.count a.instance a.least a.greatest a.known a.offset a.delay (omega arith))

pub returns-then-from-d : goal.returns-then-from-d
returns-then-from-d c =
    let a = c.args.self in
    sym (after_all a.instances.now a.offsets.now a.count a.instance a.least a.greatest a.known a.offset a.delay (omega arith))

pub returns : goal.returns
returns c =
    let a = c.args.self in
    let pairs = pair_same a.instances.now a.offsets.now a.count a.instance a.least a.greatest a.known a.offset a.delay c.saturating_sub-near.result c.saturating_add-far.result in
    c.each.ensures (λ o. ltb o c.saturating_sub-near.result || leb c.saturating_add-far.result o) (λ o b l p. search rules)
    ∙ every_as _ _ 64 (λ j l. pairs j (search rules) (search rules) l)
    ∙ all_places a.instances.now a.offsets.now a.count a.instance a.least a.greatest a.known (λ o. leb (o + a.delay) a.offset || leb (a.offset + a.delay) o) a.room
