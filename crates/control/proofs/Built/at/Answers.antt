-- The row gives the counts and the first record; the instances end where no further one stands, and the connections are the last records.
use Rattle.std.proofs.Common.{refl, ap, ◌∙◌, ℕ, ◌-◌, arith}
use Rattle.reading.specs.Reader.{Row}
use Rattle.groups.specs.Groups.{past_instances}
use Rattle.groups.proofs.Laws.{row_is, past_is}
use Rattle.control.proofs.Found.{instances_from, connections_to, instances_below, built_there}
use Rattle.control.proofs.Built.at.Goals as goal

pub past_instances-requires : goal.past_instances-requires
past_instances-requires c =
    let h = c.requires.0 in
    let l = rw c.requires.1 at c.if-c-judged.false in
    let s = c.past_ports-instances.ensures ∙ instances_from h c.args.c l in
    let k = instances_below h c.args.c l (built_there h c.args.c l c.row-row.result c.row-row.ensures (λ z. absurd (omega arith))) in
    (omega arith, h.few, h.held)

pub past_invocations-requires : goal.past_invocations-requires
past_invocations-requires c =
    let h = c.requires.0 in
    let l = rw c.requires.1 at c.if-c-judged.false in
    let e = connections_to h c.args.c l (built_there h c.args.c l c.row-row.result c.row-row.ensures (λ z. absurd (omega arith))) c.args.judged.components c.requires.1 in
    let f = h.lawful.few in
    (omega arith, omega (arith, c.requires.1), omega arith)

pub returns : goal.returns
returns c =
    let h = c.requires.0 in
    let l = rw c.requires.1 at c.if-c-judged.false in
    let r = c.row-row.ensures ∙ row_is h c.args.c l in
    let s = c.past_ports-instances.ensures ∙ instances_from h c.args.c l in
    let b = built_there h c.args.c l c.row-row.result c.row-row.ensures (λ z. absurd (omega arith)) in
    let e = connections_to h c.args.c l b c.args.judged.components c.requires.1 in
    let d = c.past_invocations.ensures in (
      record {
        opened = h;
        there = l;
        is_built = b;
        delay_is = ap (λ (w : Row). w.delay) r;
        inputs_are = ap (λ (w : Row). w.inputs) r;
        outputs_are = ap (λ (w : Row). w.outputs) r;
        first_is = ap (λ (w : Row). w.first) r;
        instances_at = s;
        invocations_at = c.past_instances.ensures ∙ ap (λ (k : ℕ). past_instances c.args.judged.file.now (c.args.judged.records - k) k) s ∙ past_is h c.args.c l;
        connections_at = omega arith;
      },
      refl,
      refl,
    )
