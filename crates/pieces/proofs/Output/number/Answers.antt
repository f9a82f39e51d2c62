use Rattle.std.proofs.Common.{arith}
use Rattle.std.proofs.lemmas.Fmt.{length-decimal-le}
use Rattle.pieces.proofs.Room.{fits}
use Rattle.pieces.proofs.Output.number.Goals as goal

pub returns-in-Err : goal.returns-in-Err
returns-in-Err c = λ room.
    let short = length-decimal-le 20 c.args.n (omega arith) (omega (arith, c.ranges.n)) (omega (arith, c.ranges.n)) in
    grind (arith, fits)
