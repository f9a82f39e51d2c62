-- What lowering asks of a component of a design, and what refuses it.
-- Assumes nothing.
use Rattle.std.specs.Prelude.{ℕ, ◌*◌, ◌<◌, ◌≡◌, ◌⊎◌, length}
use Rattle.answers.specs.Fault as Fault
use Rattle.answers.specs.Answer.{refusal, Refusal}
use Rattle.timeline.specs.Design.{Design, built, class}
use Rattle.timetable.specs.Rows.{rows}

-- The component is there, and built.
abbrev pub Can : Design → ℕ → Type 0
Can D c = (c < length D) × (class D c ≡ built)

-- A component of a design, with so much room.
module _ (D : Design) (c room : ℕ) where
  -- "Then 14, then every other 13": absent or a leaf; or there, and sixteen bytes to each of its rows have no room.
  abbrev pub Cannot : Refusal → Type 0
  Cannot r = ((r ≡ refusal Fault.Absent c) × ¬ Can D c) ⊎ ((r ≡ refusal Fault.Room 0) × Can D c × (room < 16 * length (rows D c)))
