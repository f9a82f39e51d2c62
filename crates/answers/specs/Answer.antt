-- The answers in document 01's numbers and values. (01, Answers)
-- Assumes nothing.
use Rattle.std.specs.Prelude.{ℕ, ◌≤◌, List, Result, Ok, Err}
use Rattle.answers.specs.declared.fault.Fault.{Fault}
use Rattle.answers.specs.declared.Refusal.{Refusal as Found}
use Rattle.answers.specs.declared.Counts.{Counts as Counted}
use Rattle.answers.specs.Fault.{number}

-- "A refusal hands back its number and position".
pub record Refusal : Type 0 where
  pub number : ℕ
  pub position : ℕ

abbrev pub refusal : (number position : ℕ) → Refusal
refusal n p = record { number = n; position = p }

-- Some refusal's number: 0 stands for none.
abbrev pub Numbered : ℕ → Type 0
Numbered n = 1 ≤ n

-- Acceptance with what it hands back, or the first refusal.
pub data Answer (A : Type 0) : Type 0 where
  accepted : A → Answer A
  refused : Refusal → Answer A

-- A refusal has some refusal's number.
abbrev pub Sure : {A : Type 0} → Answer A → Type 0
Sure (accepted a) = Unit
Sure (refused r) = Numbered r.number

-- "First one found": what `next` answers where nothing before it refused.
abbrev pub then : {A B : Type 0} → Answer A → (A → Answer B) → Answer B
then (accepted a) next = next a
then (refused r) next = refused r

-- What a call leaves in lent bytes: what acceptance puts there; of a refusal, "lent output keeps every byte".
abbrev pub left : {A : Type 0} → Answer A → (put : A → List ℕ) → (old : List ℕ) → List ℕ
left (accepted a) put old = put a
left (refused r) put old = old

-- What the verdict hands back: "the component and record counts".
abbrev pub Counts : Type 0
Counts = Counted

-- What each answer of the code says: its values, or the refusal's number and position.
abbrev pub answer : {A : Type 0} → Result A Found → Answer A
answer (Ok a) = accepted a
answer (Err r) = refused (refusal (number r.fault) r.position)

-- The number of what a test of the code finds wrong, and 0 where it finds nothing.
abbrev pub broken : {A : Type 0} → Result A Fault → ℕ
broken (Ok a) = 0
broken (Err f) = number f
