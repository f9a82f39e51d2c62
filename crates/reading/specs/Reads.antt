-- What a program shows of its state to read a record list rightly: three local facts, none of which speaks of a design.
-- Assumes nothing.
use Rattle.std.specs.Prelude.{ℕ, ◌<◌, ◌≡◌, List, [], ◌∷◌, length, get_or, T}
use Rattle.answers.specs.Answer.{Answer, Counts}
use Rattle.timeline.specs.Design.{Port}
use Rattle.entry.specs.Records.{Record, wrong, component, part, input, output}
use Rattle.entry.specs.Numbers.{At}
use Rattle.entry.specs.Asks.{InRange}
use Rattle.reading.specs.Scan.{Tests, scan, final}
use Rattle.reading.specs.Reader.{View, tests, ends, count}
use Rattle.reading.specs.Told.{told}
use Rattle.reading.specs.Step.{Step}

-- Every test passes.
abbrev pub Passes : Tests → Type 0
Passes [] = Unit
Passes (t ∷ rest) = T t.1 × Passes rest

-- A record that is not wrong has its numbers in range: what decoding sees to.
abbrev pub Ranged : Record → Type 0
Ranged wrong = Unit
Ranged (component k d) = InRange (component k d)
Ranged (part x) = InRange (part x)

-- What is read at a record number is the port, where a port stands.
abbrev pub Looks : List Record → (ℕ → Port) → Type 0
Looks file look = (n : ℕ) (p : Port) → (At file n (part (input p)) → look n ≡ p) × (At file n (part (output p)) → look n ≡ p)

-- S: the program's state, seen as a reader. Own: what it keeps for itself, as the lengths of its arrays.
module _ (S : Type 0) (view : S → View) (next : S → ℕ → Record → S) (Own : S → Type 0) (file : List Record) (look : ℕ → Port) where
  pub record Reads : Type 0 where
    pub ranged : (n : ℕ) → n < length file → Ranged (get_or file n wrong)
    pub looks : Looks file look
    pub keeps : (s : S) (p : ℕ) (r : Record) → Own s → At file p r → Passes (tests look (view s) r) → Step (view s) p r (view (next s p r)) × Own (next s p r)

  -- What it answers from record p on, and its last state.
  abbrev pub answer : S → ℕ → List Record → Answer Counts
  answer s p rs = scan S (λ t. tests look (view t)) (λ t. ends (view t)) (λ t. told (view t)) (λ t. count (view t)) next s p rs

  abbrev pub last_state : S → ℕ → List Record → S
  last_state s p rs = final S (λ t. tests look (view t)) (λ t. ends (view t)) (λ t. told (view t)) (λ t. count (view t)) next s p rs
