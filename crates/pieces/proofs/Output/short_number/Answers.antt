use Rattle.std.proofs.Common.{arith}
use Rattle.pieces.proofs.Digits.{first, more}
use Rattle.pieces.proofs.Output.short_number.Goals as goal

pub returns : goal.returns
returns c = grind (arith, first, more)
