-- What lowering answers, and what it leaves in the lent bytes. (01, Answers; Lowering)
-- Assumes nothing.
use Rattle.std.specs.Prelude.{ℕ, ◌*◌, cond, ◌&&◌, List, ◌++◌, length, drop, ltb}
use Rattle.answers.specs.Fault as Fault
use Rattle.answers.specs.Answer.{Answer, accepted, refused, then, refusal, left, Counts}
use Rattle.timeline.specs.Design.{Design, class}
use Rattle.reading.specs.Tests.{is_built}
use Rattle.timetable.specs.Rows.{Row, rows}
use Rattle.timetable.specs.Bytes.{rows_bytes}
use Rattle.verdict.specs.Judgement.{judgement}
use Rattle.groups.specs.Groups.{design_of}

-- "14: component asked for is absent, or the component is a leaf when lowering": at "its number".
-- "Then every other 13", at 0: the lent bytes are too few for sixteen a row.
unfoldable pub component_rows : Design → (asked room : ℕ) → Answer (List Row)
component_rows D c room =
    cond (ltb c (length D) && is_built (class D c)) (cond (ltb room (16 * length (rows D c))) (refused (refusal Fault.Room 0)) (accepted (rows D c))) (refused (refusal Fault.Absent c))

-- "Lowering and listing judge the whole file first, with the same table." The rows of the component asked for, or the first refusal.
unfoldable pub lowered : (file : List ℕ) → (lent asked room : ℕ) → Answer (List Row)
lowered file lent asked room =
    then (judgement file lent) (λ (k : Counts). component_rows (design_of file k.records) asked room)

-- "Acceptance hands back: [..] from lowering and listing the number of rows."
abbrev pub how_many : Answer (List Row) → Answer ℕ
how_many (accepted l) = accepted (length l)
how_many (refused r) = refused r

-- The rows, "and bytes past the written part keep their values".
abbrev pub over : (old : List ℕ) → List Row → List ℕ
over old l = rows_bytes l ++ drop (16 * length l) old

-- Of a table of so many rows lent, and so many bytes of room; and what those bytes, `old`, then hold.
abbrev pub lower_answer : (file : List ℕ) → (lent asked room : ℕ) → Answer ℕ
lower_answer file lent asked room = how_many (lowered file lent asked room)

abbrev pub lower_left : (file : List ℕ) → (lent asked : ℕ) → (old : List ℕ) → List ℕ
lower_left file lent asked old = left (lowered file lent asked (length old)) (over old) old
