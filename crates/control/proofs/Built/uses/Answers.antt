use Rattle.std.proofs.Common.{refl}
use Rattle.control.proofs.Called.{first_call}
use Rattle.control.proofs.Built.uses.Goals as goal

pub returns : goal.returns
returns c = (record { stands = c.requires; begins = first_call c.requires }, refl, refl, refl)
