-- 01's squaring example, case A: it is lawful, demand 3 speaks of uses that it has, and its flat rows are those of 01.
-- Assumes nothing.
use Rattle.std.specs.Prelude.{ℕ, ◌+◌, ◌*◌, ◌≤◌, ◌≡◌, refl, [], ◌∷◌}
use Rattle.std.proofs.Common.{sym, ⊎_elim, lit<, lit≤, arith}
use Rattle.timeline.specs.Design.{Design, Component, Port, own, output_of, leaf, built, component, class, delay}
use Rattle.timeline.specs.Design.{input_count, output_count, instance_count, invocation_count, input, output}
use Rattle.timeline.specs.Design.{made_of, call, instance, invoked, offset, argument, connection, takes}
use Rattle.timeline.specs.Rules.{Lawful}
use Rattle.timeline.specs.Uses.{Spaced, at_output, here_output, up}
use Rattle.timeline.specs.Demand3.{Safe, Use, cycle, unit_of, own_delay, Read}
use Rattle.timeline.proofs.Demand3.{demand_3}
use Rattle.timeline.specs.Flat.{leaf_count_to, leaf_count, count_before, row_count, unit_count, units_before, rows_to, rows_from, rows}
use Rattle.timeline.proofs.IsLawful.{is_lawful, lawful_exactly}

-- "All widths 32."
port : (start end : ℕ) → Port
port s e = record { start = s; end = e; width = 32 }

-- Records 0 to 3.
unfoldable pub multiplier : Component
unfolding port
multiplier =
    record {
      class = leaf;
      delay = 2;
      inputs = port 0 1 ∷ port 0 1 ∷ [];
      outputs = port 2 3 ∷ [];
      instances = [];
      calls = [];
      arguments = [];
      connections = [];
    }

-- Records 4 to 15.
unfoldable pub square : Component
unfolding port
square =
    record {
      class = built;
      delay = 4;
      inputs = port 0 1 ∷ port 0 1 ∷ [];
      outputs = port 4 5 ∷ [];
      instances = 0 ∷ [];
      calls = record { instance = 0; offset = 0 } ∷ record { instance = 0; offset = 2 } ∷ [];
      arguments = (own 0 ∷ own 1 ∷ []) ∷ (output_of 0 0 ∷ output_of 0 0 ∷ []) ∷ [];
      connections = output_of 1 0 ∷ [];
    }

-- To unfold the design is to unfold whatever looks into it, so that all that is said of it computes.
unfoldable pub squaring : Design
unfolding multiplier square component class delay input_count output_count instance_count invocation_count input output
    made_of call instance invoked offset argument connection takes
squaring = multiplier ∷ square ∷ []

pub squaring_lawful : Lawful squaring
unfolding squaring is_lawful
squaring_lawful = (lawful_exactly squaring).0 tt

-- Started in every fourth cycle: as often as its delay lets it be.
unfoldable pub every_fourth : ℕ → Type 0
every_fourth t = (n : ℕ) × (t ≡ 4 * n)

fourths_spaced : Spaced (delay squaring 1) every_fourth
unfolding squaring every_fourth
fourths_spaced = record { spaced = λ t t' s s' l. let (n, e) = s in let (m, f) = s' in omega arith }

pub squaring_safe : Safe squaring 1 every_fourth
unfolding squaring
squaring_safe = demand_3 squaring squaring_lawful 1 (lit< tt) refl every_fourth fourths_spaced

-- The start in cycle 8 uses the multiplier, one unit, twice: in cycle 8 by invocation 0, and in cycle 10 by invocation 1.
unfoldable pub first_use : Use squaring 1 every_fourth
unfolding squaring every_fourth
first_use = record { start = 8; started = (2, refl); path = 0 ∷ []; is_path = (lit< tt, tt); to_leaf = refl }

unfoldable pub second_use : Use squaring 1 every_fourth
unfolding squaring every_fourth
second_use = record { start = 8; started = (2, refl); path = 1 ∷ []; is_path = (lit< tt, tt); to_leaf = refl }

pub first_cycle : cycle squaring 1 every_fourth first_use ≡ 8
unfolding squaring first_use
first_cycle = refl

pub second_cycle : cycle squaring 1 every_fourth second_use ≡ 10
unfolding squaring second_use
second_cycle = refl

pub one_unit : unit_of squaring 1 every_fourth first_use ≡ unit_of squaring 1 every_fourth second_use
unfolding squaring first_use second_use
one_unit = refl

-- So the second waits until the first one's own delay, 2, has passed; and no longer.
pub first_delay : own_delay squaring 1 every_fourth first_use ≡ 2
unfolding squaring first_use
first_delay = refl

pub second_waits : cycle squaring 1 every_fourth first_use + own_delay squaring 1 every_fourth first_use ≤ cycle squaring 1 every_fourth second_use
unfolding squaring first_use second_use
second_waits =
    ⊎_elim (λ same. let z : ◌≡◌ {A = ℕ} 0 1 = cc same.1 in absurd (omega arith)) (λ later. later)
    (squaring_safe.apart first_use second_use one_unit (lit≤ tt))

-- In cycle 10 the second use reads, at its input 0, output 0 of the unit as the first use has it.
pub second_input : Read squaring 1 every_fourth 8 (1 ∷ []) (own 0) 10
unfolding squaring second_use
second_input = squaring_safe.inputs_read second_use 0 10 (lit< tt) (record { from = lit≤ tt; upto = lit< tt })

pub second_reads_first : second_input.found.end ≡ at_output (0 ∷ []) 0
unfolding squaring
second_reads_first = sym (second_input.found.one_end (at_output (0 ∷ []) 0) (up (here_output refl)))

-- In cycle 12 the top's output is output 0 of the unit as the second use has it.
pub result : Read squaring 1 every_fourth 8 [] (output_of 1 0) 12
unfolding squaring every_fourth
result = squaring_safe.outputs_read 8 0 12 (2, refl) (lit< tt) (record { from = lit≤ tt; upto = lit< tt })

pub result_of_second : result.found.end ≡ at_output (1 ∷ []) 0
unfolding squaring
result_of_second = sym (result.found.one_end (at_output (1 ∷ []) 0) (here_output refl))

-- "flat rows of component 1: (0, 0, 0), (2, 0, 0)"
pub squaring_rows : rows squaring 1 ≡ record { cycle = 0; unit = 0; component = 0 } ∷ record { cycle = 2; unit = 0; component = 0 } ∷ []
unfolding squaring rows rows_from rows_to units_before count_before
squaring_rows = refl

pub squaring_counts : (row_count squaring 1 ≡ 2) × (unit_count squaring 1 ≡ 1)
unfolding squaring leaf_count leaf_count_to
squaring_counts = (refl, refl)
