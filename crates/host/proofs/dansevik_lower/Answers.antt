-- What opening leaves of an accepted file has the row of each component.
use Rattle.host.proofs.Opened.{opens}
use Rattle.host.proofs.dansevik_lower.Goals as goal

pub lower_judged-requires : goal.lower_judged-requires
lower_judged-requires c = opens _ _ _ _ c.opened.ensures.0 c.opened.ensures.1
