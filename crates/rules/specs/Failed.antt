-- The first test that fails. (01, Answers: "first one found")
-- Assumes nothing.
use Rattle.std.specs.Prelude.{ℕ, cond, [], ◌∷◌}
use Rattle.reading.specs.Scan.{Tests}

-- The number of the first test that fails, 0 for none.
abbrev pub first_failed : Tests → ℕ
first_failed [] = 0
first_failed (t ∷ rest) = cond t.1 (first_failed rest) t.0
