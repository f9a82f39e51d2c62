-- The verdict on a list of records, as a computation: records in order, and within a record the table's order. (01, Answers)
-- Assumes nothing.
use Rattle.std.specs.Prelude.{ℕ, suc, List, [], ◌∷◌, length}
use Rattle.answers.specs.Answer.{Answer, accepted, refused, Counts, Refusal}
use Rattle.entry.specs.Records.{Record, wrong}
use Rattle.entry.specs.Entered.{Entered, nothing, enter, said}
use Rattle.entry.specs.Asks.{Asks, asks, ending}
use Rattle.entry.specs.Told.{told}
use Rattle.entry.specs.Decide.{Decided, decide, decide_end}

-- Refused with what is told of the first rule that does not hold; and answer k if they all hold.
unfoldable pub first : (l : Asks) → Decided l → (tell : ℕ → Refusal) → (k : Answer Counts) → Answer Counts
first [] d tell k = k
first (a ∷ rest) d tell k = elim d.0 [ yes h ↦ first rest d.1 tell k | no h ↦ refused (tell a.0) ]

-- The records from number p on, after what has been entered. What follows a refused record stands under a `let` and is not computed.
unfoldable pub judge : Entered → ℕ → List Record → Answer Counts
judge e p [] = first (ending e) (decide_end e) (told e wrong p) (accepted (record { components = length (said e); records = p }))
judge e p (r ∷ rs) = let k = judge (enter e r) (suc p) rs in first (asks e r) (decide e r) (told e r p) k

unfoldable pub verdict : List Record → Answer Counts
verdict rs = judge nothing 0 rs
