use Rattle.std.proofs.Common.{arith, length-append, append_assoc, ℕ}
use Rattle.std.proofs.lemmas.Fmt.{length-decimal-le}
use Rattle.pieces.proofs.Room.{fits}
use Rattle.pieces.proofs.Output.source.Goals as goal

pub returns-in-Output : goal.returns-in-Output
returns-in-Output c = λ room.
    let short = length-decimal-le 5 c.in-Output.invocation (omega arith) (omega arith) (omega arith) in
    grind (arith, fits, length-append {A = ℕ}, append_assoc {A = ℕ})
