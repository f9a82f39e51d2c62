-- One invocation after another, until the connections begin.
use Rattle.std.proofs.Common.{rules, refl, arith, ◌+◌, ◌-◌, ◌<◌}
use Rattle.control.specs.Stands.{MayCall, Begins}
use Rattle.control.proofs.Called.{calls_done, next_call, call_within}
use Rattle.control.proofs.UsesIterator.next.Goals as goal

pub returns-then-self-of-clause-steps : goal.returns-then-self-of-clause-steps
returns-then-self-of-clause-steps c = (c.if-self-of.true, calls_done c.requires.stands c.requires.begins c.if-self-of.true, refl)

pub returns-clause-steps : goal.returns-clause-steps
returns-clause-steps c = record { is_use = c.use_at-u.ensures; before = c.if-self-of.false; same = refl; next = refl; behind = rw c.from.ensures }

pub returns-clause-goes : goal.returns-clause-goes
returns-clause-goes c =
    let k = call_within c.requires.stands c.requires.begins c.if-self-of.false c.use_at-u.ensures in
    let w : Begins c.args.self.now.of (c.args.self.now.number + 1) (c.args.self.now.record + (1 + c.from.result)) = rw c.from.ensures (next_call c.requires.stands c.requires.begins c.if-self-of.false c.use_at-u.ensures) in
    let m : MayCall (record { of = c.args.self.now.of; number = c.args.self.now.number + 1; «record» = c.args.self.now.record + (1 + c.from.result) }) = record { stands = c.requires.stands; begins = w } in
    let l : c.args.self.now.of.connections - (c.args.self.now.record + (1 + c.from.result)) < c.args.self.now.of.connections - c.args.self.now.record = omega arith in
    search rules
