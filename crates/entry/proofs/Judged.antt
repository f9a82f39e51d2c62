-- The answer of the verdict, and the fact that goes with it: no record breaks a rule, or the one at position p is the first, and n the first that it breaks.
-- The walk follows the computation, from any record on.
-- Assumes nothing.
use Rattle.std.specs.Prelude.{ℕ, suc, ◌+◌, ◌≡◌, refl, List, [], ◌∷◌, length, get_or, take}
use Rattle.std.proofs.Common.{ap, ◌∙◌, arith}
use Rattle.answers.specs.Answer.{Answer, accepted, refused, Counts, Refusal}
use Rattle.entry.specs.Records.{Record, wrong}
use Rattle.entry.specs.Entered.{Entered, enter, enter_all, said}
use Rattle.entry.specs.Asks.{Asks, asks, ending}
use Rattle.entry.specs.Told.{told}
use Rattle.entry.specs.Decide.{Decided, decide, decide_end}
use Rattle.entry.specs.Answers.{FirstBroken}
use Rattle.entry.specs.Verdict.{first, judge}
use Rattle.entry.proofs.Good.{Keeps}
use Rattle.entry.proofs.First.{first_here, first_later}
use Rattle.entry.proofs.Unbroken.{Unbroken, Stops}

-- What `first` answers, with its ground.
pub data Found (l : Asks) (tell : ℕ → Refusal) (k x : Answer Counts) : Type 0 where
  kept : Keeps l → x ≡ k → Found l tell k x
  broken : (n : ℕ) → FirstBroken l n → x ≡ refused (tell n) → Found l tell k x

pub found : (l : Asks) (d : Decided l) (tell : ℕ → Refusal) (k : Answer Counts) → Found l tell k (first l d tell k)
unfolding first
found [] d tell k = kept tt refl
found (a ∷ l) d tell k = go d.0 (found l d.1 tell k)
  where
    go : (x : Dec a.1) → Found l tell k (first l d.1 tell k) → Found (a ∷ l) tell k (first (a ∷ l) (x, d.1) tell k)
    go (yes y) (kept h e) = kept (y, h) e
    go (yes y) (broken n h e) = broken n (first_later a l n y h) e
    go (no y) f = broken a.0 (first_here a l y) refl

-- So many components and records.
abbrev counting : Entered → ℕ → Answer Counts
counting e n = accepted (record { components = length (said e); records = n })

pub data Judged (e : Entered) (i : ℕ) (rs : List Record) : Type 0 where
  goes : Unbroken e rs → judge e i rs ≡ counting (enter_all e rs) (i + length rs) → Judged e i rs
  stops : (n p : ℕ) → Stops e rs n p → judge e i rs ≡ refused (told (enter_all e (take p rs)) (get_or rs p wrong) (i + p) n) → Judged e i rs

pub judged : (e : Entered) (i : ℕ) (rs : List Record) → Judged e i rs
unfolding judge enter_all Unbroken Stops
judged e i [] = go (found (ending e) (decide_end e) (told e wrong i) (counting e i))
  where
    go : Found (ending e) (told e wrong i) (counting e i) (first (ending e) (decide_end e) (told e wrong i) (counting e i)) → Judged e i []
    go (kept h a) = goes h (a ∙ ap (counting e) (omega arith))
    go (broken n h a) = stops n 0 h (a ∙ ap (λ (q : ℕ). refused (told e wrong q n)) (omega arith))
judged e i (r ∷ rs) = go (found (asks e r) (decide e r) (told e r i) (judge (enter e r) (suc i) rs)) (judged (enter e r) (suc i) rs)
  where
    go : Found (asks e r) (told e r i) (judge (enter e r) (suc i) rs) (first (asks e r) (decide e r) (told e r i) (judge (enter e r) (suc i) rs)) → Judged (enter e r) (suc i) rs → Judged e i (r ∷ rs)
    go (kept h a) (goes u b) = goes (h, u) (a ∙ b ∙ ap (counting (enter_all (enter e r) rs)) (omega arith))
    go (kept h a) (stops n p s b) = stops n (suc p) (h, s) (a ∙ b ∙ ap (λ (q : ℕ). refused (told (enter_all (enter e r) (take p rs)) (get_or rs p wrong) q n)) (omega arith))
    go (broken n h a) j = stops n 0 h (a ∙ ap (λ (q : ℕ). refused (told e r q n)) (omega arith))
