-- Every record of an accepted list is in range, so that coding it loses nothing.
-- Assumes nothing.
use Rattle.std.specs.Prelude.{◌≡◌, List, [], ◌∷◌}
use Rattle.answers.specs.Answer.{accepted, Counts}
use Rattle.entry.specs.Records.{Record}
use Rattle.entry.specs.Entered.{Entered, nothing, enter}
use Rattle.entry.specs.Asks.{InRange}
use Rattle.entry.specs.Verdict.{verdict}
use Rattle.entry.proofs.Laws.{Unbroken, accepted_unbroken}

unfoldable pub AllInRange : List Record → Type 0
AllInRange [] = Unit
AllInRange (r ∷ rs) = InRange r × AllInRange rs

unbroken_in_range : (e : Entered) (rs : List Record) → Unbroken e rs → AllInRange rs
unfolding Unbroken AllInRange
unbroken_in_range e [] u = tt
unbroken_in_range e (r ∷ rs) u = (u.0.0, unbroken_in_range (enter e r) rs u.1)

pub accepted_in_range : (rs : List Record) (k : Counts) → verdict rs ≡ accepted k → AllInRange rs
accepted_in_range rs k a = unbroken_in_range nothing rs (accepted_unbroken rs k a).0
