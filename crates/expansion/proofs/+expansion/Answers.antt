-- What each call asks and leaves: the laws of Calls and Listed.
use Rattle.std.proofs.Common.{◌+◌, ◌<◌, arith}
use Rattle.expansion.specs.Notes.{first_note}
use Rattle.expansion.proofs.Listed.{listed_leaf, listed_notes, from_none}
use Rattle.expansion.proofs.Calls.{wrote_none, leaf_asked, notes_asked, lower, sub_asked, next_asked, notes_wrote}
use Rattle.expansion.proofs.+expansion.Goals as goal

pub expand-expand_invocations-requires : goal.expand-expand_invocations-requires
expand-expand_invocations-requires t c =
    let h : first_note c.args.notes.now.ends c.args.c < first_note c.args.notes.now.ends (c.args.c + 1) = omega arith in
    let w = c.requires.expands.sound.within c.args.c (omega arith) in
    (omega arith, rw c.first-first.ensures.0 (notes_asked c.requires h))

pub expand-returns-then-first : goal.expand-returns-then-first
expand-returns-then-first t c =
    let h : first_note c.args.notes.now.ends c.args.c < first_note c.args.notes.now.ends (c.args.c + 1) = omega arith in
    rw (listed_notes c.args.notes.now.noted c.args.notes.now.ends c.args.c c.args.cycle c.args.unit h, ← c.first-first.ensures.0) c.expand_invocations.ensures

pub expand-put_row-requires : goal.expand-put_row-requires
expand-put_row-requires t c = leaf_asked c.requires (omega arith)

pub expand-returns : goal.expand-returns
expand-returns t c =
    rw (listed_leaf c.args.notes.now.noted c.args.notes.now.ends c.args.c c.args.cycle c.args.unit (omega arith)) c.put_row.ensures

pub expand_invocations-returns-then-first-e :
    goal.expand_invocations-returns-then-first-e
expand_invocations-returns-then-first-e t c =
    rw (from_none c.args.notes.now.noted c.args.notes.now.ends c.args.c c.args.e c.args.cycle c.args.unit (omega arith)) (wrote_none c.args.out.now c.args.at)

pub expand_invocations-expand-next-requires : goal.expand_invocations-expand-next-requires
expand_invocations-expand-next-requires t c =
    let h : c.args.e < first_note c.args.notes.now.ends (c.args.c + 1) = omega arith in
    let o : c.note-note.result.offset < 65536 = omega (arith, c.note-note.type_inv) in
    let u : c.note-note.result.units < 65536 = omega (arith, c.note-note.type_inv) in (
      omega (arith, lower c.requires h c.note-note.ensures o u, c.from.ensures),
      rw (c.from.ensures, c.from-2.ensures, c.from-3.ensures) (sub_asked c.requires h c.note-note.ensures o u),
    )

pub expand_invocations-expand_invocations-requires :
    goal.expand_invocations-expand_invocations-requires
expand_invocations-expand_invocations-requires t c =
    let h : c.args.e < first_note c.args.notes.now.ends (c.args.c + 1) = omega arith in
    let o : c.note-note.result.offset < 65536 = omega (arith, c.note-note.type_inv) in
    let u : c.note-note.result.units < 65536 = omega (arith, c.note-note.type_inv) in
    let w = rw (c.from.ensures, c.from-2.ensures, c.from-3.ensures) at c.expand-next.ensures in
    (omega arith, next_asked c.requires h c.note-note.ensures o u w)

pub expand_invocations-returns : goal.expand_invocations-returns
expand_invocations-returns t c =
    let h : c.args.e < first_note c.args.notes.now.ends (c.args.c + 1) = omega arith in
    let o : c.note-note.result.offset < 65536 = omega (arith, c.note-note.type_inv) in
    let u : c.note-note.result.units < 65536 = omega (arith, c.note-note.type_inv) in
    let w = rw (c.from.ensures, c.from-2.ensures, c.from-3.ensures) at c.expand-next.ensures in
    notes_wrote c.requires h c.note-note.ensures o u w c.expand_invocations.ensures
