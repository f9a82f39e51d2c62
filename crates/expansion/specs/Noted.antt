-- The notes of a design: what stands in them of each component's invocations.
-- Assumes nothing.
use Rattle.std.specs.Prelude.{ℕ, ◌+◌, ◌-◌, ◌≤◌, ◌<◌, min, ◌≡◌, List}
use Rattle.timeline.specs.Design.{Design, invocation_count, invoked, offset}
use Rattle.expansion.specs.declared.Note.{Note}
use Rattle.timeline.specs.Flat.{Row, join_below, row_count, unit_count, units_before, rows_from}
use Rattle.expansion.specs.Notes.{note_at, note_component, note_offset, note_units, first_note, join_from}

-- Counts of rows and units stop at 4,097: "more than 4,096 rows or 4,096 units" are all refused alike.
abbrev pub capped : ℕ → ℕ
capped n = min 4097 n

-- The rows of the first j invocations of component c.
unfoldable pub invocation_rows : (D : Design) (c j t u : ℕ) → List Row
invocation_rows D c j t u = join_below j (λ i. rows_from D (invoked D c i) (t + offset D c i) (u + units_before D c i))

module _ (D : Design) (noted : List Note) (c : ℕ) where
  -- Note e is of one of the first j invocations of component c, and that one has rows.
  pub record Named (j e : ℕ) : Type 0 where
    pub invocation : ℕ
    pub below : invocation < j
    pub component_is : note_component noted e ≡ invoked D c invocation
    pub live : 0 < row_count D (invoked D c invocation)

  -- The rows of the notes from a to z.
  unfoldable pub note_rows : (a z t u : ℕ) → List Row
  note_rows a z t u = join_from (z - a) a (λ e. rows_from D (note_component noted e) (t + note_offset noted e) (u + note_units noted e))

  -- The notes from a to z are of the first j invocations, and list the same rows where no count of units was stopped.
  pub record NotesOf (j a z : ℕ) : Type 0 where
    pub order : a ≤ z
    pub named : (e : ℕ) → a ≤ e → e < z → Named j e
    pub same_rows : unit_count D c ≤ 4096 → (t u : ℕ) → note_rows a z t u ≡ invocation_rows D c j t u

-- The notes before place z are the same in both.
abbrev pub Alike : (new old : List Note) → (z : ℕ) → Type 0
Alike new old z = (e : ℕ) → e < z → note_at new e ≡ note_at old e

-- The components below k have their notes.
pub record Noted (D : Design) (noted : List Note) (ends : List ℕ) (k : ℕ) : Type 0 where
  pub within : (c : ℕ) → c < k → first_note ends (c + 1) ≤ 3968
  pub notes : (c : ℕ) → c < k → NotesOf D noted c (invocation_count D c) (first_note ends c) (first_note ends (c + 1))
