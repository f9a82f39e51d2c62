-- A test of the offset of each invocation of one instance.
-- Assumes nothing.
use Rattle.std.specs.Prelude.{ℕ, ◌<◌, Bool, not, ◌||◌, ◌≡◌, List, get_or, eqb}

-- At place j; an invocation of another instance than n passes.
abbrev pub of_instance : (instance offset : List ℕ) → (n : ℕ) → (ℕ → Bool) → ℕ → Bool
of_instance instance offset n t j = not (eqb (get_or instance j 0) n) || t (get_or offset j 0)

-- What a call of the code's test can answer is t.
abbrev pub Computes : (post : ℕ → Bool → Type 0) → (ℕ → Bool) → Type 0
Computes post t = (o : ℕ) (b : Bool) → o < 65536 → post o b → b ≡ t o
