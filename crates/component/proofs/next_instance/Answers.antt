-- The first record that is no port is found, and the ports before it are passed over.
use Rattle.std.proofs.Common.{rules, ◌≡◌, ◌≢◌, arith, tests, ◌∙◌}
use Rattle.std.proofs.lemmas.Iterator.{first_from_Range}
use Rattle.look.specs.Look.{kind}
use Rattle.component.proofs.Ahead.{ahead_ports, ahead_end, ahead_stop, ahead_more}
use Rattle.component.proofs.next_instance.Goals as goal

pub returns-in_err-i : goal.returns-in_err-i
returns-in_err-i c =
    let file = c.args.records.file.now in
    let none = rw c.in_err-i.was at (first_from_Range _ _ _ _ (λ i. kind file i ≢ 2) (λ i. kind file i ≡ 2) c.find.ensures.ran (λ x q k. grind (arith, tests)) (λ x q k. (search rules, grind (arith, tests)))) in
    let e = ahead_ports file c.args.records.count c.args.place c.args.records.count (omega arith) c.args.at c.requires.0 none ∙ ahead_end file c.args.records.count c.args.records.count c.args.place (omega arith) in
    search (rules, e)

pub kind_at-kind-requires : goal.kind_at-kind-requires
kind_at-kind-requires c =
    let file = c.args.records.file.now in
    let some = rw c.in_ok-i.was at (first_from_Range _ _ _ _ (λ i. kind file i ≢ 2) (λ i. kind file i ≡ 2) c.find.ensures.ran (λ x q k. grind (arith, tests)) (λ x q k. (search rules, grind (arith, tests)))) in
    let high = some.1 in
    search (rules, high)

pub first_number_at-c-requires : goal.first_number_at-c-requires
first_number_at-c-requires c =
    let file = c.args.records.file.now in
    let some = rw c.in_ok-i.was at (first_from_Range _ _ _ _ (λ i. kind file i ≢ 2) (λ i. kind file i ≡ 2) c.find.ensures.ran (λ x q k. grind (arith, tests)) (λ x q k. (search rules, grind (arith, tests)))) in
    let high = some.1 in
    search (rules, high)

pub returns-then-kind-ne3 : goal.returns-then-kind-ne3
returns-then-kind-ne3 c =
    let file = c.args.records.file.now in
    let some = rw c.in_ok-i.was at (first_from_Range _ _ _ _ (λ i. kind file i ≢ 2) (λ i. kind file i ≡ 2) c.find.ensures.ran (λ x q k. grind (arith, tests)) (λ x q k. (search rules, grind (arith, tests)))) in
    let high = some.1 in
    let other = some.2 in
    let e = ahead_ports file c.args.records.count c.args.place c.in_ok-i.i (omega arith) c.args.at some.0 some.3 in
    search (rules, e, high, other, ahead_stop)

pub returns : goal.returns
returns c =
    let file = c.args.records.file.now in
    let some = rw c.in_ok-i.was at (first_from_Range _ _ _ _ (λ i. kind file i ≢ 2) (λ i. kind file i ≡ 2) c.find.ensures.ran (λ x q k. grind (arith, tests)) (λ x q k. (search rules, grind (arith, tests)))) in
    let high = some.1 in
    let other = some.2 in
    let e = ahead_ports file c.args.records.count c.args.place c.in_ok-i.i (omega arith) c.args.at some.0 some.3 in
    search (rules, e, high, other, ahead_more)
