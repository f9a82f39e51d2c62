-- Every rule has some refusal's number, so that no refusal of the verdict could be taken for none.
-- Assumes nothing.
use Rattle.std.specs.Prelude.{ℕ, suc, List, [], ◌∷◌}
use Rattle.std.proofs.Common.{arith}
use Rattle.answers.specs.Answer.{Answer, Numbered, Sure, Counts}
use Rattle.entry.specs.Records.{input, output, instance, invocation, argument, connection, Record, wrong, component, part}
use Rattle.entry.specs.Entered.{Entered, nothing, after, enter}
use Rattle.entry.specs.Asks.{Asks, asks, ending}
use Rattle.entry.specs.Told.{told}
use Rattle.entry.proofs.Told.{told_number}
use Rattle.entry.specs.Decide.{Decided, decide, decide_end}
use Rattle.entry.specs.Verdict.{first, judge, verdict}

abbrev AllNumbered : Asks → Type 0
AllNumbered [] = Unit
AllNumbered (a ∷ rest) = Numbered a.0 × AllNumbered rest

asks_numbered : (e : Entered) (r : Record) → AllNumbered (asks e r)
asks_numbered nothing wrong = omega arith
asks_numbered nothing (component k d) = omega arith
asks_numbered nothing (part x) = omega arith
asks_numbered (after E C) wrong = omega arith
asks_numbered (after E C) (component k d) = omega arith
asks_numbered (after E C) (part (input p)) = omega arith
asks_numbered (after E C) (part (output p)) = omega arith
asks_numbered (after E C) (part (instance n)) = omega arith
asks_numbered (after E C) (part (invocation v)) = omega arith
asks_numbered (after E C) (part (argument s)) = omega arith
asks_numbered (after E C) (part (connection s)) = omega arith

ending_numbered : (e : Entered) → AllNumbered (ending e)
ending_numbered nothing = omega arith
ending_numbered (after E C) = omega arith

first_sure : (l : Asks) → AllNumbered l → (d : Decided l) (e : Entered) (x : Record) (p : ℕ) (k : Answer Counts) → Sure k → Sure (first l d (told e x p) k)
unfolding first
first_sure [] n d e x p k s = s
first_sure (a ∷ l) n d e x p k s = go d.0 (first_sure l n.1 d.1 e x p k s)
  where
    go : (y : Dec a.1) → Sure (first l d.1 (told e x p) k) → Sure (first (a ∷ l) (y, d.1) (told e x p) k)
    go (yes h) more = more
    go (no h) more = let m = n.0 in let t = told_number e x p a.0 in omega arith

judge_sure : (e : Entered) (p : ℕ) (rs : List Record) → Sure (judge e p rs)
unfolding judge
judge_sure e p [] = first_sure (ending e) (ending_numbered e) (decide_end e) e wrong p _ tt
judge_sure e p (r ∷ rs) = first_sure (asks e r) (asks_numbered e r) (decide e r) e r p _ (judge_sure (enter e r) (suc p) rs)

pub verdict_sure : (rs : List Record) → Sure (verdict rs)
unfolding verdict
verdict_sure rs = judge_sure nothing 0 rs
