-- What the flat listing of a component answers, and what it leaves in the lent bytes. (01, Flat listing; Answers)
-- Assumes nothing.
use Rattle.std.specs.Prelude.{ℕ, ◌*◌, Bool, cond, ◌&&◌, List, ◌++◌, length, drop, ltb, leb}
use Rattle.answers.specs.Fault as Fault
use Rattle.answers.specs.Answer.{Answer, accepted, refused, then, refusal, left}
use Rattle.timeline.specs.Design.{Design}
use Rattle.timeline.specs.Flat.{row_count, unit_count, rows}
use Rattle.verdict.specs.Judgement.{judgement}
use Rattle.groups.specs.Groups.{design_of}
use Rattle.expansion.specs.Bytes.{rows_bytes}

-- "More than 4,096 rows or 4,096 units is refusal 13", and so is a buffer too short for the rows, of 8 bytes each.
abbrev pub fits : (rows units room : ℕ) → Bool
fits rows units room = leb rows 4096 && leb units 4096 && leb (8 * rows) room

-- Of a judged design: "then 14, then every other 13". Acceptance hands back "the number of rows".
unfoldable pub flat_answer : Design → (asked room : ℕ) → Answer ℕ
flat_answer D asked room =
    cond
    (ltb asked (length D))
    (cond (fits (row_count D asked) (unit_count D asked) room) (accepted (row_count D asked)) (refused (refusal Fault.Room 0)))
    (refused (refusal Fault.Absent asked))

-- "Listing judges the whole file first."
unfoldable pub list_answer : (file : List ℕ) → (lent asked room : ℕ) → Answer ℕ
list_answer file lent asked room = then (judgement file lent) (λ k. flat_answer (design_of file k.records) asked room)

unfoldable pub flat_left : Design → (asked : ℕ) → (old : List ℕ) → List ℕ
flat_left D asked old = left (flat_answer D asked (length old)) (λ n. rows_bytes (rows D asked) ++ drop (8 * n) old) old

unfoldable pub list_left : (file : List ℕ) → (lent asked : ℕ) → (old : List ℕ) → List ℕ
list_left file lent asked old = left (judgement file lent) (λ k. flat_left (design_of file k.records) asked old) old
