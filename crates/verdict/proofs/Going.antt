-- The invariant of the loop over the components: the table has the rows of the components before.
-- Assumes nothing.
use Prim.Native.Nat.{ℕ, ◌-◌, ◌≤◌, ◌<◌}
use mathlib.Core.Path.{◌≡◌}
use mathlib.Core.List.{List}
use Rattle.reading.specs.Reader.{Row}
use Rattle.signatures.specs.declared.Signature.{Signature}
use Rattle.reader.specs.Rows.{signature}
use Rattle.component.specs.declared.Progress.{Progress}
use Rattle.component.specs.Run.{waits, Onward}
use Rattle.component.specs.Component.{Begins, run}

module _ (file : List ℕ) (n : ℕ) where
  -- The table has f.
  pub record Going (f : ℕ → Signature) (q : Progress) : Type 0 where
    pub within : q.at ≤ n
    pub begins : Begins q
    pub rows : ℕ → Row
    pub shows : (c : ℕ) → c < q.count - 1 → f c ≡ signature (rows c)
    pub onward : Onward file n waits 0 (run rows q) q.at
