-- A local array `[T; n]` of plain data, made by a repeat, and what its place is when it is lent whole as a slice.
--     is_array         n copies of x are a [T; n], at the machine value of n copies of u
--     array_parts      the array's place, at a value of the type, is the whole share of its elements: what `denote.Lend`'s `lends_shr_slice` takes
--     array_cells      so it is its elements in memory: what `lends_slice` takes
--     cells_parts      what `slice_back` gives is the whole share of the elements again
-- Assumes `Logic`.
use mathlib.Core.Path.{refl}
use Prim.Native.Nat.{ℕ, zero, suc}
use mathlib.Core.List.{List, [], ◌∷◌}
use lib.ListN.{replicate, length-replicate}
use seplogic.Ra.Ura.{Ura}
use base.Fraction.{full_share}
use mir.Syntax.{ty_array}
use mir.Val.{Val}
use base.Logic.{ent}
use base.Fml.{fsep, fat}
use types.Logic.{Logic, sem}
use types.Kit.{‵, ◌$◌, ◌∵◌, !, qed, by, move, use1, drop, fsplit, fjoin, fpack, frame}
use types.SemTy.{cells, Arr}
use types.Share.{arr_parts}
use denote.RattleType.{RattleType}
use denote.Shadow.{shadow}
use denote.Laws.{Is, Makes}
use denote.Memory.{cell_at, lone, mem, shares, part_of}
use denote.Array.{Array, each, array_val, Array-Makes}
use denote.ArrayMemory.{Single, Array-apart}
use denote.Index.{whole_in, whole_out}
use denote.Steps.{owned}

module _ (R : RattleType) (x : R.Denot) (u : Val) (is : Is R x (u ∷ [])) where
  each_is : (n : ℕ) → shadow (each R.Denot R.own_val (replicate n x) (replicate n u))
  each_is zero = tt
  each_is (suc n) = (is, each_is n)

  pub is_array : (n : ℕ) → Is (Array R n) (replicate n x) (array_val (replicate n u) ∷ [])
  is_array n = (replicate n u, ((refl, length-replicate n x), each_is n))

module _ {M : Type 1} {𝓤 : Ura M} (𝓛 : Logic 𝓤) (R : RattleType) (n b : ℕ) where
  pub cells_parts : (zs : List R.Denot) → ent 𝓤 (sem 𝓛 ((Arr (mem R) n).own_at zs b 0)) (sem 𝓛 ((arr_parts (shares R) n).part full_share zs b 0))
  cells_parts zs = qed 𝓛 (‵ ((Arr (mem R) n).own_at zs b 0) ∷ []) ∵ fsplit ! $ frame ! $ by ! (whole_out 𝓛 R zs b 0)

module _ {M : Type 1} {𝓤 : Ura M} (𝓛 : Logic 𝓤) (R : RattleType) (one : Single R.mir) (mk : Makes 𝓛 R (Is R)) (n b : ℕ) where
  pub array_parts : (ys : List R.Denot) (v : Val) → Is (Array R n) ys (v ∷ []) → ent 𝓤 (sem 𝓛 (fat full_share (ty_array (lone R.mir) n) b 0 v)) (sem 𝓛 ((arr_parts (shares R) n).part full_share ys b 0))
  unfolding part_of
  array_parts ys v is =
      qed 𝓛 (‵ (fat full_share (ty_array (lone R.mir) n) b 0 v) ∷ []) ∵ owned ! (Array R n) (Is (Array R n)) (Array-Makes 𝓛 R mk n) ys (v ∷ []) is $ move ! (1 ∷ []) $
      use1 𝓛 (‵ (cell_at full_share (Array R n).mir (v ∷ []) b 0)) (𝓛.laws.at_raw full_share (ty_array (lone R.mir) n) b 0 v) $ fjoin ! $
      fpack ! (List Val) (λ vs. fsep (cell_at full_share (Array R n).mir vs b 0) ((Array R n).own_val ys vs)) (v ∷ []) $ by ! (Array-apart 𝓛 R full_share one n ys b 0)

  pub array_cells : (ys : List R.Denot) (v : Val) → Is (Array R n) ys (v ∷ []) → ent 𝓤 (sem 𝓛 (fat full_share (ty_array (lone R.mir) n) b 0 v)) (sem 𝓛 (cells (mem R) ys b 0))
  array_cells ys v is =
      qed 𝓛 (‵ (fat full_share (ty_array (lone R.mir) n) b 0 v) ∷ []) ∵ use1 𝓛 (‵ ((arr_parts (shares R) n).part full_share ys b 0)) (array_parts ys v is) $ fsplit ! $ drop ! $ by ! (whole_in 𝓛 R ys b 0)
