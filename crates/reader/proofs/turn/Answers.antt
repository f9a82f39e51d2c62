-- An invocation that meets with no refusal: what is noted of it, and what is kept after it.
use Rattle.std.proofs.Common.{[], refl, sym, arith}
use Rattle.rules.specs.Calls.{no_look}
use Rattle.reader.specs.Rows.{row, none}
use Rattle.reader.specs.State.{state, viewed}
use Rattle.reader.proofs.Kept.{kept_invocation, went_turn}
use Rattle.reader.proofs.Notes.{noted_invocation}
use Rattle.reader.proofs.Passed.{invocation_built, room_invocation}
use Rattle.reader.proofs.turn.Goals as goal

pub returns-in_ok-invocation_refusal-in-Invocation :
    goal.returns-in_ok-invocation_refusal-in-Invocation
returns-in_ok-invocation_refusal-in-Invocation c =
    let a = c.args in
    let k = a.kept.now in
    let w = c.in-Invocation in
    let seen_as = viewed none (state a.r (λ m. row a.v) k.instances k.offsets [] []) in
    let ranged = rw w.is at c.requires.0 in
    let passed = sym c.in_ok-invocation_refusal-in-Invocation.ensures in
    rw (c.note.ensures, w.is) (
      noted_invocation a.r k.instances k.offsets k.firsts k.least k.greatest c.requires.4 w.n w.k ranged.0 ranged.1 _ _ _ _ c.invocation.ensures refl refl (invocation_built no_look seen_as _ passed) refl (room_invocation no_look seen_as _ passed) (omega arith),
      went_turn _ _ _ _ _ 0 _ c.in_ok-invocation_refusal-in-Invocation.ensures refl refl (kept_invocation a.v k.instances k.offsets k.outputs k.firsts a.r _ _ _ _ _ _ c.from-in-Invocation.ensures c.from.ensures c.from-in-Invocation-2.ensures c.invocation.ensures) (omega arith),
    )
