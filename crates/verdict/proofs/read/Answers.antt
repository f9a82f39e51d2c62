-- The loop over the components carries `Going` from the first to the last, and each turn leaves fewer records.
use Rattle.std.proofs.Common.{rules, ◌≡◌, ◌<◌, length, sym, ◌∙◌, arith}
use Rattle.std.specs.Prelude.{Ok, Err}
use Rattle.answers.specs.Fault.{number}
use Rattle.answers.specs.Answer.{refused, refusal}
use Rattle.verdict.specs.Judgement.{judgement, kept}
use Rattle.verdict.proofs.Counts.{count_bounds}
use Rattle.verdict.proofs.Handed.{kept_stored}
use Rattle.verdict.proofs.Reached.{holds, judged_so, reached_first, known, goes, accepts, rows_there}
use Rattle.verdict.proofs.read.Goals as goal

pub invariant_of-records : goal.invariant_of-records
invariant_of-records c =
    let bounds = count_bounds c.args.file.now c.in_ok-count.count c.in_ok-count.ensures.counted in
    record { few = bounds.1; within = bounds.2; bytes = λ k _. (c.type_inv.file k).fits }

pub loop-e-init : goal.loop-e-init
loop-e-init c =
    let start = c.start-q.ensures in
    reached_first c.args.file.now c.in_ok-count.count (kept c.args.table.now) c.start-q.result start.0 start.1 start.2

pub read_next-requires : goal.read_next-requires
read_next-requires c =
    let started = c.in_ok-count.ensures in
    let bounds = count_bounds c.args.file.now c.in_ok-count.count started.counted in
    let enough = started.enough in
    (omega arith, bounds.0, c.loop-e.invariant.within, c.loop-e.invariant.begins)

pub returns-in_err-e : goal.returns-in_err-e
returns-in_err-e c =
    let r = c.in_err-e.field-0.0 in
    let here = c.loop-e.invariant in
    let refuses = here.onward.answer ∙ known c.args.file.now c.in_ok-count.count here (Err r) c.in_err-e.ensures.1 in
    let j : judgement c.args.file.now (length c.args.table.now) ≡ refused (refusal (number r.fault) r.position) = judged_so c.args.file.now _ c.in_ok-count.count c.in_ok-count.ensures (λ k _. (c.type_inv.file k).fits) ∙ refuses in
    search (rules, j)

pub loop-e-smaller : goal.loop-e-smaller
loop-e-smaller c =
    let here = c.loop-e.invariant in
    let read = rw c.in-Some.is at (known c.args.file.now c.in_ok-count.count here (Ok c.in_ok-e.e) c.in_ok-e.ensures.1) in
    let later = read.later in
    let within = read.within in
    omega arith

pub loop-e-preserved : goal.loop-e-preserved
loop-e-preserved c =
    let e = c.in_ok-e.e in
    let here = c.loop-e.invariant in
    let small = holds c.args.file.now _ c.in_ok-count.count c.in_ok-count.ensures (λ k _. (c.type_inv.file k).fits) in
    let there : e.place < length c.loop-e.table = let enough = c.in_ok-count.ensures.enough in let below = c.in_ok-e.ensures.0.1 in omega arith in
    goes c.args.file.now c.in_ok-count.count small here e.place c.in_ok-e.ensures.0.0 e.row c.in_ok-e.ensures.0.2 (kept c.store.new.table) (kept_stored c.loop-e.table c.store.new.table e.place e.row c.store.ensures there) (rw c.in-Some.is at (known c.args.file.now c.in_ok-count.count here (Ok e) c.in_ok-e.ensures.1))

pub returns-in-None : goal.returns-in-None
returns-in-None c =
    let e = c.in_ok-e.e in
    let here = c.loop-e.invariant in
    let small = holds c.args.file.now _ c.in_ok-count.count c.in_ok-count.ensures (λ k _. (c.type_inv.file k).fits) in
    let there : e.place < length c.loop-e.table = let enough = c.in_ok-count.ensures.enough in let below = c.in_ok-e.ensures.0.1 in omega arith in
    let stops = rw c.in-None.is at (known c.args.file.now c.in_ok-count.count here (Ok e) c.in_ok-e.ensures.1) in
    (sym (judged_so c.args.file.now _ c.in_ok-count.count c.in_ok-count.ensures (λ k _. (c.type_inv.file k).fits) ∙ accepts c.args.file.now c.in_ok-count.count small here e.place c.in_ok-e.ensures.0.0 e.row c.in_ok-e.ensures.0.2 (kept c.store.new.table) (kept_stored c.loop-e.table c.store.new.table e.place e.row c.store.ensures there) stops), rows_there c.args.file.now c.in_ok-count.count small here e.place c.in_ok-e.ensures.0.0 e.row c.in_ok-e.ensures.0.2 (kept c.store.new.table) (kept_stored c.loop-e.table c.store.new.table e.place e.row c.store.ensures there) stops)
