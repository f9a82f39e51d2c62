-- Case A of the squaring example, lowered: "n = 5". (01, The squaring example)
-- Assumes nothing.
use Rattle.std.specs.Prelude.{ℕ, ◌+◌, ◌≡◌, refl, [], ◌∷◌, map}
use Rattle.std.proofs.Common.{lit<, arith}
use Rattle.answers.specs.Answer.{accepted, Counts}
use Rattle.timeline.specs.Design.{Design, output_of, no_port, no_call, no_component, component, class, delay, input_count, output_count, instance_count, invocation_count, argument_count, input, output, made_of, call, instance, invoked, offset, argument, gives}
use Rattle.entry.specs.Lists.{add_last, change_last}
use Rattle.entry.specs.Records.{records, parts, invocations}
use Rattle.entry.specs.Numbers.{component_number, input_number, output_number, instance_number, invocation_number, argument_number, connection_number}
use Rattle.entry.specs.Entered.{design, enter_all}
use Rattle.entry.specs.Verdict.{verdict}
use Rattle.entry.specs.Cases.{squaring, from_to, at_offset, cases}
use Rattle.entry.proofs.Main.{accepted_exactly, starred_cases}
use Rattle.timetable.specs.Lists.{greatest}
use Rattle.timetable.specs.States.{own_ends, invocation_ends, states}
use Rattle.timetable.specs.Rows.{numbers, first_state, last_state, register_row, go_row, guard_row, out_row, invocation_rows, rows_before, rows}
use Rattle.timetable.specs.Drives.{RowsDrive}
use Rattle.timetable.specs.Lowered.{Lowered}
use Rattle.timetable.proofs.Main.{accepted_lowering}

-- To unfold the design is to unfold whatever looks into it, so that all that is said of it computes.
unfoldable pub case_A : Design
unfolding squaring from_to at_offset design enter_all add_last change_last records parts invocations no_port no_call no_component component class delay input_count output_count instance_count invocation_count argument_count input output made_of call instance invoked offset argument gives component_number input_number output_number instance_number invocation_number argument_number connection_number
case_A = design squaring

pub case_A_rows : map numbers (rows case_A 1)
    ≡ (1 ∷ 4 ∷ 5 ∷ 0 ∷ 0 ∷ 0 ∷ 0 ∷ 0 ∷ [])
    ∷ (2 ∷ 0 ∷ 0 ∷ 0 ∷ 0 ∷ 0 ∷ 0 ∷ 0 ∷ [])
    ∷ (3 ∷ 0 ∷ 0 ∷ 0 ∷ 0 ∷ 10 ∷ 0 ∷ 0 ∷ [])
    ∷ (3 ∷ 0 ∷ 1 ∷ 0 ∷ 0 ∷ 11 ∷ 0 ∷ 0 ∷ [])
    ∷ (2 ∷ 1 ∷ 0 ∷ 2 ∷ 0 ∷ 0 ∷ 0 ∷ 0 ∷ [])
    ∷ (3 ∷ 1 ∷ 0 ∷ 2 ∷ 2 ∷ 13 ∷ 0 ∷ 0 ∷ [])
    ∷ (3 ∷ 1 ∷ 1 ∷ 2 ∷ 2 ∷ 14 ∷ 0 ∷ 0 ∷ [])
    ∷ (4 ∷ 0 ∷ 15 ∷ 0 ∷ 0 ∷ 0 ∷ 0 ∷ 0 ∷ [])
    ∷ []
unfolding case_A rows rows_before invocation_rows register_row go_row guard_row out_row first_state last_state states own_ends invocation_ends greatest numbers
case_A_rows = refl

pub case_A_states : states case_A 1 ≡ 5
unfolding case_A states own_ends invocation_ends greatest
case_A_states = refl

abbrev counted : Counts
counted = record { components = 2; records = 16 }

case_A_accepted : verdict squaring ≡ accepted counted
unfolding cases
case_A_accepted = (accepted_exactly squaring counted).1 starred_cases.0

pub case_A_lowered : (S : ℕ → Type 0) → Lowered case_A 1 squaring S
unfolding case_A
case_A_lowered S = accepted_lowering squaring counted case_A_accepted 1 (lit< tt) refl S

-- Two cycles after each start, record 13 drives input 0 of the multiplier: the second invocation's first argument, output 0 of the first.
pub second_driven : (S : ℕ → Type 0) (t : ℕ) → S t → RowsDrive (rows case_A 1) squaring S (t + 2) 0 0 (output_of 0 0) 13 1 t
unfolding case_A
second_driven S t s =
    ((case_A_lowered S).drives (t + 2) 0 0 (output_of 0 0) 13 1 t).1 (record {
      started = s;
      invocation_there = lit< tt;
      instance_is = refl;
      input_there = lit< tt;
      during = record { from = omega arith; upto = omega arith };
      source_is = refl;
      record_is = refl;
    })
