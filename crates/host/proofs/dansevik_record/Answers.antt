-- A record that is there has a number below those that would wrap.
use Rattle.std.proofs.Common.{arith, sym}
use Rattle.host.proofs.Records.{below_all_numbers}
use Rattle.host.proofs.dansevik_record.Goals as goal

pub place-requires : goal.place-requires
place-requires c =
    let few = below_all_numbers c.args.file.now c.args.asked (sym c.in-Ok.ensures) in
    omega arith
