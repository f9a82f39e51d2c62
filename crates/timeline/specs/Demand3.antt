-- Demand 3: a built component of a lawful design, started at any cycles at least its delay apart and expanded to leaf units, is safe.
-- Assumes nothing.
use Rattle.std.specs.Prelude.{ℕ, ◌+◌, ◌≤◌, ◌<◌, ◌≡◌, List, [], ◌⊎◌}
use Rattle.timeline.specs.Design.{Design, Source, own, leaf, class, input_count, output_count, input, output, connection}
use Rattle.timeline.specs.Rules.{Holds}
use Rattle.timeline.specs.Uses.{reach, PathOf, unit, after, lasts, Found}
use Rattle.timeline.specs.Wires.{Pin, pin, Carries}

module _ (D : Design) (top : ℕ) (S : ℕ → Type 0) where
  -- A use of a leaf unit: a start of the top, and a path of invocations to a leaf.
  pub record Use : Type 0 where
    pub start : ℕ
    pub started : S start
    pub path : List ℕ
    pub is_path : PathOf D top path
    pub to_leaf : class D (reach D top path) ≡ leaf

  -- The cycle in which the use starts its unit; that unit; the leaf component that it is; the use's own delay.
  abbrev pub cycle : Use → ℕ
  cycle u = u.start + after D top u.path

  abbrev pub unit_of : Use → List ℕ
  unit_of u = unit D top u.path

  abbrev pub leaf_of : Use → ℕ
  leaf_of u = reach D top u.path

  abbrev pub own_delay : Use → ℕ
  own_delay u = lasts D top u.path

  abbrev pub Same : Use → Use → Type 0
  Same u v = (u.start ≡ v.start) × (u.path ≡ v.path)

  -- Source s, read in cycle x for start t in the component that p leads to: what the records name is found, and the wires carry exactly that pin.
  pub record Read (t : ℕ) (p : List ℕ) (s : Source) (x : ℕ) : Type 0 where
    pub found : Found D top S t p s x
    pub carried : Carries D top S x (unit D top p) s (pin D top found.end)
    pub alone : (w : Pin) → Carries D top S x (unit D top p) s w → w ≡ pin D top found.end

  pub record Safe : Type 0 where
    -- (a) No unit starts again before its own delay has passed.
    pub apart : (u v : Use) → unit_of u ≡ unit_of v → cycle u ≤ cycle v → Same u v ⊎ (cycle u + own_delay u ≤ cycle v)
    -- (b) No unit input is driven by two uses in one cycle.
    pub driven_once : (u v : Use) → unit_of u ≡ unit_of v → (i x : ℕ) → i < input_count D (leaf_of u)
        → Holds (input D (leaf_of u) i) (cycle u) x → Holds (input D (leaf_of v) i) (cycle v) x → Same u v
    -- (c) In each cycle that a unit input requires, it reads what is promised, for the named start and use and for no other.
    pub inputs_read : (u : Use) (i x : ℕ) → i < input_count D (leaf_of u) → Holds (input D (leaf_of u) i) (cycle u) x → Read u.start u.path (own i) x
    -- (c) So too in each cycle that an output of the top requires.
    pub outputs_read : (t o x : ℕ) → S t → o < output_count D top → Holds (output D top o) t x → Read t [] (connection D top o) x
