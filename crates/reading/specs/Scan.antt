-- One pass over the records with a state of any kind: tests at each record and at the end, and the next state.
-- It gives the verdict if the tests mean what the rules ask and the state goes on to fit what has been entered.
-- Assumes nothing.
use Rattle.std.specs.Prelude.{ℕ, suc, Bool, cond, ◌≡◌, List, [], ◌∷◌, ◌++◌, length}
use Rattle.answers.specs.Answer.{Answer, accepted, refused, Counts, Refusal}
use Rattle.entry.specs.Lists.{add_last}
use Rattle.entry.specs.Records.{Record, wrong}
use Rattle.entry.specs.Entered.{Entered, enter, said}
use Rattle.entry.specs.Asks.{Asks, asks, ending}
use Rattle.entry.specs.Told.{told}
use Rattle.entry.proofs.Laws.{Keeps}
use Rattle.reading.specs.Tests.{Means}

-- Tests, each with the number of its refusal.
abbrev pub Tests : Type 0
Tests = List (ℕ × Bool)

-- Refused with what is told of the first test that fails; and answer k if they all pass.
unfoldable pub tried : Tests → (tell : ℕ → Refusal) → (k : Answer Counts) → Answer Counts
tried [] tell k = k
tried (t ∷ rest) tell k = cond t.1 (tried rest tell k) (refused (tell t.0))

-- The tests mean the rules, one by one: each where the rules before it hold, so that what is looked up need be right only then.
abbrev pub Agree : Asks → Tests → Type 0
Agree [] [] = Unit
Agree [] (t ∷ rest) = ⊥
Agree (a ∷ l) [] = ⊥
Agree (a ∷ l) (t ∷ rest) = (a.0 ≡ t.0) × Means t.1 a.1 × (a.1 → Agree l rest)

-- S: the state. `tells` is what a refusal at a record tells, `count` the number of components where the list ends; `next` takes the number of the record too.
module _ (S : Type 0) (tests : S → Record → Tests) (ends : S → Tests) (tells : S → Record → (p n : ℕ) → Refusal) (count : S → ℕ) (next : S → ℕ → Record → S) where
  unfoldable pub scan : S → ℕ → List Record → Answer Counts
  scan s p [] = tried (ends s) (tells s wrong p) (accepted (record { components = count s; records = p }))
  scan s p (r ∷ rs) = let k = scan (next s p r) (suc p) rs in tried (tests s r) (tells s r p) k

  -- The state where the list ends.
  unfoldable pub final : S → ℕ → List Record → S
  final s p [] = s
  final s p (r ∷ rs) = final (next s p r) (suc p) rs

  -- file: all the records, for a state that looks back. Fits e done s: the state fits what has been entered, after the records that are done.
  module _ (file : List Record) (Fits : Entered → List Record → S → Type 0) where
    pub record Follows : Type 0 where
      pub at_record : (e : Entered) (done : List Record) (s : S) (r : Record) (rs : List Record) → Fits e done s → file ≡ done ++ (r ∷ rs) → Agree (asks e r) (tests s r)
      pub at_end : (e : Entered) (s : S) → Fits e file s → Agree (ending e) (ends s)
      pub tells_so : (e : Entered) (done : List Record) (s : S) (r : Record) (n : ℕ) → Fits e done s → told e r (length done) n ≡ tells s r (length done) n
      pub counts : (e : Entered) (s : S) → Fits e file s → Keeps (ending e) → count s ≡ length (said e)
      pub goes_on : (e : Entered) (done : List Record) (s : S) (r : Record) (rs : List Record) → Fits e done s → file ≡ done ++ (r ∷ rs) → Keeps (asks e r) → Fits (enter e r) (add_last done r) (next s (length done) r)
