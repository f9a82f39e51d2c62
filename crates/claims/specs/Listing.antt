-- What the flat listing asks of a component of a design, and what refuses it.
-- Assumes nothing.
use Rattle.std.specs.Prelude.{ℕ, ◌*◌, ◌≤◌, ◌<◌, ◌≡◌, ◌⊎◌, length}
use Rattle.answers.specs.Fault as Fault
use Rattle.answers.specs.Answer.{refusal, Refusal}
use Rattle.timeline.specs.Design.{Design}
use Rattle.timeline.specs.Flat.{row_count, unit_count}

-- A component of a design, with so much room.
module _ (D : Design) (asked room : ℕ) where
  -- Its rows and its units are within the limits, and eight bytes to each row have room.
  abbrev pub Fits : Type 0
  Fits = (row_count D asked ≤ 4096) × (unit_count D asked ≤ 4096) × (8 * row_count D asked ≤ room)

  -- "Then 14, then every other 13": absent; or there, and a limit is passed or the rows have no room.
  abbrev pub Cannot : Refusal → Type 0
  Cannot r = ((r ≡ refusal Fault.Absent asked) × (length D ≤ asked)) ⊎ ((r ≡ refusal Fault.Room 0) × (asked < length D) × ¬ Fits)
