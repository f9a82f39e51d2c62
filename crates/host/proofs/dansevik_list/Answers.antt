-- What opening leaves of an accepted file has the row of each component.
use Rattle.host.proofs.Opened.{opens}
use Rattle.host.proofs.dansevik_list.Goals as goal

pub list_judged-requires : goal.list_judged-requires
list_judged-requires c = opens _ _ _ _ c.opened.ensures.0 c.opened.ensures.1
