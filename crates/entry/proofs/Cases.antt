-- The starred cases have their answers by computing.
-- Assumes nothing.
use Rattle.std.specs.Prelude.{◌≡◌, refl, map}
use Rattle.std.proofs.Math.Decide.{ℕ_discrete, dec_le, dec_lt}
use Rattle.timeline.specs.Design.{no_port, no_call, no_component}
use Rattle.entry.specs.Lists.{add_last, change_last}
use Rattle.entry.specs.Decisions.{decide_as, decide_unit, decide_never, decide_if, decide_both, decide_three, decide_four, decide_either, decide_below, decide_empty, decide_class, decide_port_range, decide_source_range, decide_contains}
use Rattle.entry.specs.Told.{told}
use Rattle.entry.specs.Verdict.{first, verdict}
use Rattle.entry.specs.Entered.{nothing}
use Rattle.entry.proofs.Computing.{compute_part_range, compute_in_range, compute_there, compute_wide, compute_ready, compute_part, compute_further, compute, compute_end, computing, computing_all}
use Rattle.std.proofs.Common.{◌∙◌}
use Rattle.entry.specs.Cases.{from_to, at_offset, squaring, cases}

by_computing : map (λ t. computing nothing 0 t.0) cases ≡ map (λ t. t.1) cases
unfolding from_to at_offset squaring cases add_last change_last no_port no_call no_component told first computing compute compute_end compute_further compute_part compute_in_range compute_part_range compute_there compute_wide compute_ready decide_as decide_unit decide_never decide_if decide_both decide_three decide_four decide_either decide_below decide_empty decide_class decide_port_range decide_source_range decide_contains dec_le dec_lt ℕ_discrete
by_computing = refl

-- Every case has its answer by computing.
pub computed : map (λ t. verdict t.0) cases ≡ map (λ t. t.1) cases
computed = computing_all cases ∙ by_computing
