-- From any record on: no record breaks a rule and nothing is missing at the end; or the one at position p is the first that breaks one, and n the first that it breaks.
-- These are the walks of the proofs. `Refuses` of Answers says the second by the numbers of the records.
-- Assumes nothing.
use Rattle.std.specs.Prelude.{ℕ, zero, suc, List, [], ◌∷◌}
use Rattle.entry.specs.Records.{Record}
use Rattle.entry.specs.Entered.{Entered, enter}
use Rattle.entry.specs.Asks.{asks, ending}
use Rattle.entry.specs.Answers.{FirstBroken}
use Rattle.entry.proofs.Good.{Keeps}

unfoldable pub Unbroken : Entered → List Record → Type 0
Unbroken e [] = Keeps (ending e)
Unbroken e (r ∷ rs) = Keeps (asks e r) × Unbroken (enter e r) rs

unfoldable pub Stops : Entered → List Record → (n p : ℕ) → Type 0
Stops e [] n zero = FirstBroken (ending e) n
Stops e [] n (suc p) = ⊥
Stops e (r ∷ rs) n zero = FirstBroken (asks e r) n
Stops e (r ∷ rs) n (suc p) = Keeps (asks e r) × Stops (enter e r) rs n p
