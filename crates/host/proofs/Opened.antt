-- What opening a file leaves is what lowering and listing ask of it.
-- Assumes nothing.
use Prim.Native.Nat.{ℕ}
use mathlib.Core.Path.{◌≡◌}
use mathlib.Core.List.{List}
use lib.ListN.{length}
use Rattle.answers.specs.Answer.{Answer, Counts}
use Rattle.verdict.specs.Judgement.{judgement, Filled}
use Rattle.verdict.specs.Opening.{opening_rows}
use Rattle.verdict.proofs.Rows.{opened_filled}

pub opens : (file : List ℕ) (lent : ℕ) (a : Answer Counts) (rows : List ℕ) → a ≡ judgement file lent → rows ≡ opening_rows a file → (length rows ≡ 320) × Filled a file rows × ((m : ℕ) × (a ≡ judgement file m))
opens file lent a rows j e = let f = opened_filled file lent a rows j e in (f.1, f.0, (lent, j))
