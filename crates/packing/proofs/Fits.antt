-- What is written fits the room that was lent for it.
-- Assumes nothing.
use Prim.Native.Nat.{ℕ, ◌*◌, ◌≤◌}
use mathlib.Core.Path.{◌≡◌, refl, sym}
use mathlib.Core.List.{List}
use mathlib.Core.Bool.{Bool, true, false, cond}
use native.Mathlib.Omega.{arith}
use lib.ListN.{length}
use lib.Dec.{ltb}
use borrow.Author.Tests.{ltb-false}
use Rattle.answers.specs.Fault as Fault
use Rattle.answers.specs.Answer.{Answer, accepted, refused, then, refusal, Refusal}
use Rattle.answers.specs.Once.{apart}
use Rattle.blocks.specs.File.{sound}
use Rattle.packing.specs.Packed.{list_allowed, blocks_for}
use Rattle.packing.specs.Answer.{into, pack_answer, unpack_answer}

module _ (room k : ℕ) where
  into_fits : (size : ℕ) → into room size ≡ accepted k → k ≤ room
  into_fits size e = go (refusal Fault.Room 0) (ltb room size) refl e
    where
      go : (r : Refusal) (t : Bool) → ltb room size ≡ t → ◌≡◌ {A = Answer ℕ} (cond t (refused r) (accepted size)) (accepted k) → k ≤ room
      go r true q e = absurd (apart (sym e))
      go r false q e = let s : size ≡ k = cc in let l = ltb-false room size q in omega arith

  pub pack_fits : (list : List ℕ) → pack_answer list room ≡ accepted k → k ≤ room
  unfolding pack_answer
  pack_fits list e = go (refusal Fault.Length 0) (list_allowed (length list)) e
    where
      go : (r : Refusal) (t : Bool) → ◌≡◌ {A = Answer ℕ} (cond t (into room (512 * blocks_for list)) (refused r)) (accepted k) → k ≤ room
      go r true e = into_fits (512 * blocks_for list) e
      go r false e = absurd (apart (sym e))

  pub unpack_fits : (file : List ℕ) → unpack_answer file room ≡ accepted k → k ≤ room
  unfolding unpack_answer
  unpack_fits file e = go (sound file) e
    where
      go : (a : Answer ℕ) → then a (λ (n : ℕ). into room (16 * n)) ≡ accepted k → k ≤ room
      go (accepted n) e = into_fits (16 * n) e
      go (refused r) e = absurd (apart (sym e))
