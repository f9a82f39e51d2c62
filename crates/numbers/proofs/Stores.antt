-- A run of stores over a whole list.
-- Assumes nothing.
use Prim.Native.Nat.{ℕ}
use mathlib.Core.Path.{◌≡◌, ◌∙◌}
use mathlib.Core.List.{List, append-nil}
use native.Mathlib.Omega.{arith}
use native.Mathlib.Nat.{zero-add}
use lib.ListN.{length, drop_of_length-le}
use lib.Seq.{sets, sets-eq}

pub sets_all : (vs l : List ℕ) → length l ≡ length vs → sets l 0 vs ≡ vs
sets_all vs l e = sets-eq vs l 0 (omega arith) ∙ rw (zero-add (length vs), drop_of_length-le l {i = length vs} (omega arith)) (append-nil vs)
