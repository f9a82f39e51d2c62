-- What the proofs know of how long an invocation takes and of what it gives. They unfold neither.
-- Assumes nothing.
use Rattle.std.specs.Prelude.{ℕ, ◌+◌, ◌≤◌, ◌<◌, ◌≡◌}
use Rattle.std.proofs.Math.Path.{refl}
use native.Mathlib.Omega.{arith}
use Rattle.timeline.specs.Design.{Design, built, class, delay, input_count, output_count, input, output, invoked, takes, gives}
use Rattle.timeline.specs.Rules.{Ranges, Rules}

module _ (D : Design) (c j : ℕ) where
  pub takes_some : Ranges D (invoked D c j) → 1 ≤ takes D c j
  unfolding takes
  takes_some r = r.delay_some

  -- A built component is occupied for its delay, and its outputs are as declared.
  pub takes_built : class D (invoked D c j) ≡ built → takes D c j ≡ delay D (invoked D c j)
  unfolding takes
  takes_built e = refl

  pub gives_built : (o : ℕ) → class D (invoked D c j) ≡ built → gives D c j o ≡ output D (invoked D c j) o
  unfolding gives
  gives_built o e = refl

  -- Every output starts as declared, and its interval is no longer than the invocation takes; so is that of every input.
  pub gives_start : (o : ℕ) → (gives D c j o).start ≡ (output D (invoked D c j) o).start
  unfolding gives
  gives_start o = refl

  pub gives_interval : (o : ℕ) → Rules D (invoked D c j) → o < output_count D (invoked D c j) → (gives D c j o).end ≤ (gives D c j o).start + takes D c j
  unfolding takes gives
  gives_interval o r l = let e = r.intervals.output_interval o l in omega arith

  pub input_interval : (i : ℕ) → Rules D (invoked D c j) → i < input_count D (invoked D c j)
      → (input D (invoked D c j) i).end ≤ (input D (invoked D c j) i).start + takes D c j
  unfolding takes
  input_interval i r l = let e = r.intervals.input_interval i l in omega arith
