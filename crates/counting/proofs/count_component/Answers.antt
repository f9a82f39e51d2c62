-- A leaf counts 1 and needs no note; of a built component the two calls know the rest.
use Rattle.std.proofs.Common.{refl, ap, not, eq-eqb, ne_eqb, arith}
use Rattle.expansion.specs.Notes.{first_note}
use Rattle.counting.specs.Known.{design}
use Rattle.counting.proofs.Places.{present, component_within, said_built, said_leaf, in_order}
use Rattle.counting.proofs.Grown.{known_leaf, known_built}
use Rattle.counting.proofs.count_component.Goals as goal

pub count_units-n-requires : goal.count_units-n-requires
count_units-n-requires c = (
  c.requires.0,
  said_built c.requires.0 c.row.ensures (ap not (ne_eqb c.row.result.class 0 c.if-row-ne0.true)),
  c.requires.1.unit_counts,
  refl,
)

pub note_invocations-t-requires : goal.note_invocations-t-requires
unfolding first_note
note_invocations-t-requires c = (
  c.requires.0,
  said_built c.requires.0 c.row.ensures (ap not (ne_eqb c.row.result.class 0 c.if-row-ne0.true)),
  c.requires.1.row_counts,
  c.count_units-n.ensures.1,
  rw c.from.ensures c.requires.1.place,
  c.requires.1.long_noted,
)

pub overflow_cast-totals : goal.overflow_cast-totals
overflow_cast-totals c =
    let p = c.note_invocations-t.ensures.0.place in
    let i = in_order (design c.args.judged) c.args.c (present c.requires.0) in
    let w = component_within c.requires.0 in
    let f = c.requires.0.opened.few in
    omega arith

pub returns-then-row-ne0 : goal.returns-then-row-ne0
unfolding first_note
returns-then-row-ne0 c =
    rw c.note_invocations-t.ensures.1 (
    known_built c.requires.0 c.requires.1
    (said_built c.requires.0 c.row.ensures (ap not (ne_eqb c.row.result.class 0 c.if-row-ne0.true)))
    c.count_units-n.ensures.0
    (rw c.from.ensures at c.note_invocations-t.ensures.0))

pub returns-else-row-ne0 : goal.returns-else-row-ne0
unfolding first_note
returns-else-row-ne0 c =
    known_leaf c.requires.0 c.requires.1 (said_leaf c.requires.0 c.row.ensures (ap not (eq-eqb c.row.result.class 0 c.if-row-ne0.false)))
