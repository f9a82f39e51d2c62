-- A list of bytes in pieces of sixteen: those of an accepted file are its records, and joined again they are its list.
-- Assumes nothing.
use Prim.Native.Nat.{ℕ, zero, suc, ◌+◌, ◌*◌, ◌≤◌}
use mathlib.Core.Path.{◌≡◌, refl, ◌∙◌}
use mathlib.Core.List.{List, [], ◌∷◌, ◌++◌}
use native.Mathlib.Omega.{arith}
use lib.ListN.{length, take, drop, length-append}
use lib.Seq.{take-add, take_all, drop-drop, take_at, drop_at}
use Rattle.packing.specs.Packed.{unpacked}
use Rattle.packing.proofs.Main as Packing
use Rattle.verdict.proofs.Unpacked.{sixteen_unpacked}
use Rattle.look.specs.Listed.{sixteens}
use Rattle.claims.specs.File.{joined}

-- n pieces of l, from piece i on.
unfoldable pub pieces : List ℕ → (i n : ℕ) → List (List ℕ)
pieces l i zero = []
pieces l i (suc n) = take 16 (drop (16 * i) l) ∷ pieces l (suc i) n

-- Joined, they are the bytes that they cover.
joined_pieces : (l : List ℕ) (i n : ℕ) → joined (pieces l i n) ≡ take (16 * n) (drop (16 * i) l)
unfolding pieces joined
joined_pieces l i zero = refl
joined_pieces l i (suc n) =
    let w : 16 * suc n ≡ 16 + 16 * n = omega arith in
    let v : 16 * suc i ≡ 16 * i + 16 = omega arith in
    rw (w, take-add 16 (16 * n) (drop (16 * i) l), drop-drop 16 (16 * i) l, ← v, joined_pieces l (suc i) n)

pub joined_all : (l : List ℕ) (n : ℕ) → length l ≡ 16 * n → joined (pieces l 0 n) ≡ l
joined_all l n e = joined_pieces l 0 n ∙ take_all (16 * n) l (omega arith)

-- Pieces of sixteen that were joined come apart again.
unfoldable pub Sixteens : List (List ℕ) → Type 0
Sixteens [] = Unit
Sixteens (l ∷ ls) = (length l ≡ 16) × Sixteens ls

pub length_joined : (ls : List (List ℕ)) → Sixteens ls → length (joined ls) ≡ 16 * length ls
unfolding Sixteens joined
length_joined [] h = refl
length_joined (l ∷ ls) h = let a = h.0 in let b = length_joined ls h.1 in simp length-append (omega arith)

pieces_on : (l : List ℕ) (i n : ℕ) → pieces l (suc i) n ≡ pieces (drop 16 l) i n
unfolding pieces
pieces_on l i zero = refl
pieces_on l i (suc n) =
    let v : 16 * suc i ≡ 16 + 16 * i = omega arith in
    rw (v, ← drop-drop (16 * i) 16 l, pieces_on l (suc i) n)

pub pieces_joined : (ls : List (List ℕ)) → Sixteens ls → pieces (joined ls) 0 (length ls) ≡ ls
unfolding Sixteens joined pieces
pieces_joined [] h = refl
pieces_joined (l ∷ ls) h =
    rw (take_at l (joined ls) 16 h.0, pieces_on (l ++ joined ls) 0 (length ls), drop_at l (joined ls) 16 h.0, pieces_joined ls h.1)

-- The records of a file that passes are the pieces of its list.
module _ (file : List ℕ) (f : Packing.File file) where
  sixteens_from : (i n : ℕ) → i + n ≤ f.count → sixteens file i n ≡ pieces (unpacked file) i n
  unfolding sixteens pieces
  sixteens_from i zero l = refl
  sixteens_from i (suc n) l = cc (sixteen_unpacked file f.count f.passes i (omega arith), sixteens_from (suc i) n (omega arith))

  pub sixteens_are : sixteens file 0 f.count ≡ pieces (unpacked file) 0 f.count
  sixteens_are = sixteens_from 0 f.count (omega arith)
