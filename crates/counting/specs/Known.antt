-- What is known of the components of a judged file that have been counted: their rows and units, and the notes of their invocations.
-- Assumes nothing.
use Rattle.std.specs.Prelude.{ℕ, ◌+◌, ◌≤◌, ◌<◌, cond, ◌≡◌, List, length, get_or, eqb}
use Rattle.timeline.specs.Design.{Design, invocation_count, made_of, invoked}
use Rattle.timeline.specs.Flat.{sum_below, row_count, unit_count}
use Rattle.entry.specs.Numbers.{component_number, invocation_number}
use Rattle.groups.specs.declared.Judged.{Judged}
use Rattle.groups.specs.Groups.{design_of, Opened}
use Rattle.expansion.specs.declared.Note.{Note}
use Rattle.expansion.specs.Notes.{put_note, first_note}
use Rattle.expansion.specs.Noted.{capped, NotesOf, Alike, Noted}
use Rattle.counting.specs.declared.Totals.{Totals}

-- The file has been judged, and c is one of its components.
pub record OpenedAt (file table : List ℕ) (components n c : ℕ) : Type 0 where
  pub opened : Opened file table n
  pub all : components ≡ length (design_of file n)
  pub there : c < components

-- The design of a judged file, and that c is one of its components.
abbrev pub design : Judged → Design
design j = design_of j.file.now j.records

abbrev pub Open : Judged → (c : ℕ) → Type 0
Open j c = OpenedAt j.file.now j.rows.now j.components j.records c

-- The counts of the components below k, each stopped at 4,097.
abbrev pub Counts : (count : ℕ → ℕ) → (k : ℕ) → List ℕ → Type 0
Counts count k l = (c : ℕ) → c < k → get_or l c 0 ≡ capped (count c)

-- The units of the instances of component c before number m, and so for each instance.
unfoldable pub units_to : Design → (c m : ℕ) → ℕ
units_to D c m = sum_below m (λ i. unit_count D (made_of D c i))

abbrev pub UnitsBefore : Design → (c m : ℕ) → List ℕ → Type 0
UnitsBefore D c m before = (i : ℕ) → i < m → get_or before i 0 ≡ capped (units_to D c i)

-- The rows of the first j invocations of component c.
unfoldable pub rows_to : Design → (c j : ℕ) → ℕ
rows_to D c j = sum_below j (λ i. row_count D (invoked D c i))

-- A note for an invocation that has rows, none for another; and where the next note goes.
abbrev pub kept_note : (noted : List Note) (e rows : ℕ) (note : Note) → List Note
kept_note noted e rows note = cond (eqb rows 0) noted (put_note noted e note)

abbrev pub next_note : (e rows : ℕ) → ℕ
next_note e rows = cond (eqb rows 0) e (e + 1)

-- The first j invocations of component c have their notes from place a to z, fewer than the records so far; the notes before are as they were; `rows` is how many rows they have together.
pub record Noting (D : Design) (c j a z rows : ℕ) (old new : List Note) : Type 0 where
  pub few : j ≤ invocation_count D c
  pub notes : NotesOf D new c j a z
  pub rows_are : rows ≡ capped (rows_to D c j)
  pub place : z ≤ invocation_number D c j
  pub kept : Alike new old a
  pub long : length new ≡ 3968

-- The components below k have been counted, and there are no more notes than records.
pub record Known (D : Design) (k : ℕ) (totals : Totals) : Type 0 where
  pub row_counts : Counts (row_count D) k totals.rows
  pub unit_counts : Counts (unit_count D) k totals.units
  pub notes : Noted D totals.notes.noted totals.notes.ends k
  pub place : first_note totals.notes.ends k ≤ component_number D k
  pub long_rows : length totals.rows ≡ 64
  pub long_units : length totals.units ≡ 64
  pub long_noted : length totals.notes.noted ≡ 3968
  pub long_ends : length totals.notes.ends ≡ 65
