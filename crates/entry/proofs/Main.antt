-- The main page: what the verdict on a list of records says.
-- The rules have two forms: `Lawful` of timeline, of a whole design by the numbers of its parts; and `Breaks` of Answers, of a record after those before it.
-- Assumes nothing.
use Rattle.std.specs.Prelude.{ℕ, ◌≤◌, ◌<◌, ◌≡◌, refl, List, ◌++◌, ◌↔◌, length}
use Rattle.std.proofs.Common.{sym, ◌∙◌}
use Rattle.answers.specs.Answer.{Answer, accepted, refused, Counts, Refusal}
use Rattle.timeline.specs.Design.{Design}
use Rattle.timeline.specs.Rules.{Whole, Lawful}
use Rattle.entry.specs.Records.{Record, records}
use Rattle.entry.specs.Numbers.{Standing}
use Rattle.entry.specs.Entered.{design}
use Rattle.entry.specs.Answers.{Breaks, BreaksFirst, Refuses, Answers}
use Rattle.entry.specs.Verdict.{verdict}
use Rattle.entry.specs.Cases.{Answered, cases}
use Rattle.entry.proofs.Cases.{computed}
use Rattle.entry.proofs.Lowest as Lowest
use Rattle.entry.proofs.Standing.{standing}
use Rattle.entry.proofs.Exactly.{design_of_whole, accepted_lawful, answer_exactly, unbroken_exactly, answered}

module _ (rs : List Record) where
  -- Accepted, exactly when it is the record list of a design that is in range, whole and keeps the rules; with how many components and records there are.
  pub accepted_exactly : (k : Counts) → (verdict rs ≡ accepted k) ↔ ((D : Design) × Lawful D × (records D ≡ rs) × (length D ≡ k.components) × (length rs ≡ k.records))
  accepted_exactly k = answer_exactly rs (accepted k)

  -- Refused, exactly when no record before some position breaks a rule, the record there does, and the refusal tells the first rule in the table's order that it breaks.
  -- Where something is missing at the end of the list, the position is the record count.
  pub refused_exactly : (r : Refusal) → (verdict rs ≡ refused r) ↔ Refuses rs r
  refused_exactly r = answer_exactly rs (refused r)

  -- "Lowest number first within a record": the numbers of today's table rise, so that the first rule broken is the lowest.
  pub first_is_lowest : (p n m : ℕ) → BreaksFirst rs p n → Breaks rs p m → n ≤ m
  first_is_lowest = Lowest.first_lowest rs

  -- So the two forms of the rules agree: no record breaks one, exactly when it is the record list of a lawful design.
  pub both_forms : ((p n : ℕ) → ¬ (Breaks rs p n)) ↔ ((D : Design) × Lawful D × (records D ≡ rs))
  both_forms = unbroken_exactly rs

  -- The rules leave one answer, and the verdict is it.
  pub an_answer : Answers rs (verdict rs)
  an_answer = (answer_exactly rs (verdict rs)).0 refl

  pub one_answer : (a b : Answer Counts) → Answers rs a → Answers rs b → a ≡ b
  one_answer a b h k = sym ((answer_exactly rs a).1 h) ∙ (answer_exactly rs b).1 k

  -- The design that an accepted list says is lawful, and its records are the list.
  pub its_records : (k : Counts) → verdict rs ≡ accepted k → Lawful (design rs) × (records (design rs) ≡ rs)
  its_records k a = let h = accepted_lawful rs k a in (h.0, h.1)

module _ (D : Design) where
  -- The records of a whole design say that design.
  pub the_design : ((c : ℕ) → c < length D → Whole D c) → design (records D) ≡ D
  the_design whole = design_of_whole D whole

  -- Each part of it stands at its number, also where more records follow.
  pub each_stands : (more : List Record) (c : ℕ) → c < length D → Standing D c (records D ++ more)
  each_stands more c present = standing D more c present

-- The starred cases of document 01 have the answers that it gives.
pub starred_cases : Answered cases
starred_cases = answered cases computed
