-- How the reading starts, or does not.
-- Assumes nothing.
use Prim.Native.Nat.{ℕ, ◌≤◌, ◌<◌}
use mathlib.Core.Path.{◌≡◌, sym}
use mathlib.Core.List.{List}
use borrow.Author.Tests.{lt-ltb, le-ltb}
use Rattle.std.specs.Prelude.{Result, Ok, Err}
use Rattle.answers.specs.declared.Refusal.{Refusal}
use Rattle.answers.specs.Fault as Fault
use Rattle.answers.specs.Answer.{answer, refused, refusal}
use Rattle.blocks.specs.File.{sound}
use Rattle.verdict.specs.Judgement.{judgement}
use Rattle.verdict.specs.Started.{Starts}

module _ (file : List ℕ) (rows : ℕ) where
  pub starts_not : rows < 64 → judgement file rows ≡ refused (refusal Fault.Room 0)
  unfolding judgement
  starts_not l = rw (lt-ltb rows 64 l)

  pub starts_so : 64 ≤ rows → (r : Result ℕ Refusal) → answer r ≡ sound file → Starts file rows r
  unfolding judgement
  starts_so l (Ok n) e = record { enough = l; counted = sym e }
  starts_so l (Err r) e = rw (le-ltb rows 64 l, sym e)
