-- What the records left answer, from the present state, is what they answer from the component's first.
-- Assumes nothing.
use Rattle.component.proofs.Inside.{Inside, Noting}
use Rattle.component.proofs.read_component.Given as goal

abbrev pub invariant-loop-p : goal.invariant-loop-p
invariant-loop-p l =
    Inside l.file l.fn.records.count l.fn.q l.held l.r l.kept l.p × Noting l.r l.kept
