-- The main page: what the rows of a component say.
-- The timetable of document 01 is in Table, the rows that a component is lowered to in Rows, and what any rows drive, through the pulse register, in Drives.
-- `Lowered` says that a component's rows drive, start and connect exactly what its timetable does, each input at most once; `Wired` that the rows of every unit carry what the wires of demand 3 do.
-- Assumes nothing.
use Rattle.std.specs.Prelude.{ℕ, ◌<◌, Bool, true, false, ◌≡◌, refl, List, ◌++◌, ◌↔◌, length, get_or}
use Rattle.std.proofs.Common.{sym, ap, ◌∙◌}
use Rattle.answers.specs.Answer.{accepted, Counts}
use Rattle.timeline.specs.Design.{Design, built, class}
use Rattle.timeline.specs.Rules.{Lawful}
use Rattle.entry.specs.Records.{Record, records}
use Rattle.entry.specs.Entered.{design}
use Rattle.entry.specs.Verdict.{verdict}
use Rattle.entry.proofs.Main.{accepted_exactly, its_records, the_design}
use Rattle.timetable.specs.Rows.{Row, rows}
use Rattle.timetable.specs.Places.{RowOf, row_count, place}
use Rattle.timetable.specs.Bytes.{rows_bytes, read_rows}
use Rattle.timetable.specs.Register.{Active, bits_in}
use Rattle.timetable.specs.Lowered.{Lowered, Wired}
use Rattle.timetable.proofs.Rows.{length_rows, row_at, place_has}
use Rattle.timetable.proofs.Register.{set_exactly}
use Rattle.timetable.proofs.Bytes.{rows_back}
use Rattle.timetable.proofs.Ensured.{lowered, wired}

-- Of a lawful design, over its records.
module _ (D : Design) (lawful : Lawful D) where
  pub lowering : (c : ℕ) → c < length D → class D c ≡ built → (S : ℕ → Type 0) → Lowered D c (records D) S
  lowering = lowered D lawful (records D) refl

  pub wiring : (top : ℕ) → top < length D → (S : ℕ → Type 0) → Wired D top (records D) S
  wiring = wired D lawful (records D) refl

-- Of an accepted list of records, over the list and the design that it says.
module _ (rs : List Record) (k : Counts) (is_accepted : verdict rs ≡ accepted k) where
  said : Lawful (design rs) × (records (design rs) ≡ rs)
  said = its_records rs k is_accepted

  pub said_count : length (design rs) ≡ k.components
  said_count =
      let h = (accepted_exactly rs k).0 is_accepted in
      ap length (ap design (sym h.2) ∙ the_design h.0 h.1.whole) ∙ h.3

  pub accepted_lowering : (c : ℕ) → c < k.components → class (design rs) c ≡ built → (S : ℕ → Type 0) → Lowered (design rs) c rs S
  accepted_lowering c there = lowered (design rs) said.0 rs said.1 c (rw said_count there)

  pub accepted_wiring : (top : ℕ) → top < k.components → (S : ℕ → Type 0) → Wired (design rs) top rs S
  accepted_wiring top there = wired (design rs) said.0 rs said.1 top (rw said_count there)

-- Each row stands in its place, and in each place stands a row that has it.
module _ (D : Design) (c : ℕ) where
  pub rows_counted : length (rows D c) ≡ row_count D c
  rows_counted = length_rows D c

  pub row_in_place : (none r : Row) → RowOf D c r → (place D c r < row_count D c) × (get_or (rows D c) (place D c r) none ≡ r)
  row_in_place none r h = row_at D c none r h

  pub place_of_row : (none : Row) (i : ℕ) → i < row_count D c → RowOf D c (get_or (rows D c) i none) × (place D c (get_or (rows D c) i none) ≡ i)
  place_of_row none i l = place_has D c none i l

-- Rows are read back from their bytes, whatever bytes follow.
pub bytes_read_back : (l : List Row) (more : List ℕ) → read_rows (length l) (rows_bytes l ++ more) ≡ l
bytes_read_back l more = rows_back l more

-- In a register of n states that runs on start bits s, bit i is set in cycle x exactly when state i is active.
pub register_runs : (n : ℕ) (s : ℕ → Bool) (x i : ℕ) → (get_or (bits_in n s x) i false ≡ true) ↔ ((t : ℕ) × Active n (λ y. s y ≡ true) x i t)
register_runs n s x i = set_exactly n s x i
