-- Which answer a list of records is to have, said by the rules alone. (01, Answers)
-- Assumes nothing.
use Rattle.std.specs.Prelude.{ℕ, ◌<◌, ◌≡◌, List, [], ◌∷◌, ◌⊎◌, length, get_or, take}
use Rattle.answers.specs.Answer.{Answer, accepted, refused, Counts, Refusal}
use Rattle.timeline.specs.Design.{Design}
use Rattle.timeline.specs.Rules.{Lawful}
use Rattle.entry.specs.Records.{Record, wrong, records}
use Rattle.entry.specs.Entered.{Entered, nothing, enter_all}
use Rattle.entry.specs.Asks.{Asks, asks, ending}
use Rattle.entry.specs.Told.{told}

-- Rule n is one of these, and does not hold.
unfoldable pub Broken : Asks → ℕ → Type 0
Broken [] n = ⊥
Broken (a ∷ rest) n = ((n ≡ a.0) × (¬ a.1)) ⊎ Broken rest n

-- It is the first of them that does not hold: every rule before it in the table does. (Two rules may have one number.)
unfoldable pub FirstBroken : Asks → ℕ → Type 0
FirstBroken [] n = ⊥
FirstBroken (a ∷ rest) n = ((n ≡ a.0) × (¬ a.1)) ⊎ (a.1 × FirstBroken rest n)

module _ (rs : List Record) where
  -- What the records before record p say.
  abbrev pub before : ℕ → Entered
  before p = enter_all nothing (take p rs)

  -- Record p breaks rule n; or the list ends at p, and ending there breaks rule n.
  abbrev pub Breaks : (p n : ℕ) → Type 0
  Breaks p n = ((p < length rs) × Broken (asks (before p) (get_or rs p wrong)) n) ⊎ ((p ≡ length rs) × Broken (ending (before p)) n)

  -- And n is the first in the table's order that is broken there.
  abbrev pub BreaksFirst : (p n : ℕ) → Type 0
  BreaksFirst p n = ((p < length rs) × FirstBroken (asks (before p) (get_or rs p wrong)) n) ⊎ ((p ≡ length rs) × FirstBroken (ending (before p)) n)

  -- "Then records in order", and within a record the table's order; what is told of the rule that is broken.
  pub record Refuses (r : Refusal) : Type 0 where
    pub position : ℕ
    pub number : ℕ
    pub breaks : BreaksFirst position number
    pub earlier : (q : ℕ) → q < position → (m : ℕ) → ¬ (Breaks q m)
    pub tells : r ≡ told (before position) (get_or rs position wrong) position number

  -- Accepted: the records are those of a design that is in range, whole and keeps the rules.
  abbrev pub Answers : Answer Counts → Type 0
  Answers (accepted k) = (D : Design) × Lawful D × (records D ≡ rs) × (length D ≡ k.components) × (length rs ≡ k.records)
  Answers (refused r) = Refuses r
