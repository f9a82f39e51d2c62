-- The components that the instances of a component are made of, read lightly before its records are judged.
-- Assumes nothing.
use Rattle.std.specs.Prelude.{ℕ, zero, suc, cond, ◌||◌, not, List, [], ◌∷◌, eqb, leb}
use Rattle.look.specs.Look.{kind, first_number}

-- From record i on, of which so many are left, after so many instances: ports are passed over. What is no instance of a component below 64, or one of 32 too many, ends them.
unfoldable pub ahead : List ℕ → (left i before : ℕ) → List ℕ
ahead file zero i before = []
ahead file (suc left) i before =
    cond (eqb (kind file i) 2) (ahead file left (suc i) before)
    (cond (not (eqb (kind file i) 3) || (leb 64 (first_number file i) || leb 32 before)) [] (first_number file i ∷ ahead file left (suc i) (suc before)))
