-- A `&κ mut [T]` that is lent as a `&κ' [T]` for a call, and comes back as it was.
--     LentShared       what the holder keeps while the slice is lent: the lender's part at κ', and its own borrow at κ, open, with both halves of its ghost variable
--     lends_shared     given that T can be shared, with the tokens that this asks for:  own (the `&κ mut [T]` ((b, o), γ, ys)) ∗ [κ]_q  ⊢ ⇛ own (the `&κ' [T]` ((b, o), ys)) ∗ LentShared
--     shared_back      given `Room`:  [†κ'] ∗ LentShared  ⊢ ⇛ (own (the `&κ mut [T]` ((b, o), γ, ys)) ∗ [κ]_q)
-- Assumes `Logic`.
use mathlib.Core.Path.{refl}
use Prim.Native.Nat.{ℕ}
use mathlib.Core.List.{List, [], ◌∷◌, not-mem-nil}
use lib.ListN.{length}
use seplogic.Ra.Ura.{Ura}
use base.Fraction.{full_share}
use mir.Syntax.{Lifetime}
use mir.Val.{Val}
use base.Logic.{ent, sep}
use base.Fml.{Lft, Incl, GName, Share, Fml, fsep, flft, fdead, fobs, fauth, flent, fobor}
use ghost.Rules.{Toks, span}
use types.Logic.{Logic, sem, lfts}
use types.Kit.{‵, ◌⊛◌, later, ◌$◌, ◌∵◌, !, qed, move, use2, drop, split, join, raw, fsplit, fjoin, feq_i, await, updating, now as at_once, done}
use types.Tokens.{lent_back}
use types.Share.{arr_parts}
use denote.RattleType.{RattleType}
use denote.Shares.{SharesAsFrom}
use denote.Shadow.{pure_l, pure_i}
use denote.Memory.{shares, shared_of}
use denote.Ref.{Bor, MutBor}
use denote.Slice.{slice_val, MutSlice, ShrSlice, heres, Room, mut_slice_at, coded_holeys}
use denote.Lend.{Held, lends_shr_slice}
use denote.Index.{opens_slice, closes_slice}

-- Every lifetime is within none at all.
pub none_within : (κ : Lft) → Incl κ []
none_within κ a m = absurd (not-mem-nil m)

-- What a shared slice at (b, o) denotes at a list.
abbrev pub shared_list : (R : RattleType) (b o : ℕ) → List R.Denot → Bor (List R.Denot)
shared_list R b o ys = record { ref_ptr = (b, o); now = ys }

module _ (R : RattleType) (κ κ' : Lft) (q : Share) (γ : GName) (b o : ℕ) where
  abbrev at_list : GName → List R.Denot → MutBor (List R.Denot)
  at_list δ ys = record { ref_ptr = (b, o); ghost_name = δ; now = ys }

  abbrev pub LentShared : List R.Denot → Fml
  LentShared ys = fsep (flent κ' ((arr_parts (shares R) (length ys)).part full_share ys b o)) (fsep (fobor κ q (Held R (length ys) b o γ)) (fsep (fobs γ ((coded_holeys R).code (heres R ys))) (fauth γ ((coded_holeys R).code (heres R ys)))))

  module _ {M : Type 1} {𝓤 : Ura M} (𝓛 : Logic 𝓤) (ℓ ℓ' : Lifetime) (ys : List R.Denot) where
    open 𝓛 use {H, A}

    abbrev vals : List Val
    vals = slice_val (b, o) (length ys) ∷ []

    -- The lifetimes whose tokens are shown are those that sharing the elements and the new slice ask for: of plain data, κ' alone.
    pub lends_shared : (l : Lft) → SharesAsFrom 𝓛 full_share R (shared_of R) l → (ts : Toks) → Incl (span ts) l → Incl (span ts) κ'
        → ent 𝓤 (sep 𝓤 (sem 𝓛 ((MutSlice ℓ κ R).own_val (at_list γ ys) vals)) (sep 𝓤 (A.lft κ q) (lfts 𝓛 ts)))
        (H.⇛ (sep 𝓤 (sep 𝓤 (sem 𝓛 ((ShrSlice ℓ' κ' R).own_val (shared_list R b o ys) vals)) (sem 𝓛 (LentShared ys))) (lfts 𝓛 ts)))
    lends_shared l s ts inc sp =
        qed 𝓛 (‵ ((MutSlice ℓ κ R).own_val (at_list γ ys) vals) ∷ ‵ (flft κ q) ∷ raw (lfts 𝓛 ts) ∷ []) ∵ updating ! $ fsplit ! $ pure_l ! (mut_slice_at R (at_list γ ys) vals) (λ p. fsplit ! $ opens_slice ! tt R ys b o $
        feq_i ! ℕ (length ys) (length ys) refl $ fjoin ! $ move ! (0 ∷ 4 ∷ []) $
        use2 𝓛 (later ((‵ ((ShrSlice ℓ' κ' R).own_val (shared_list R b o ys) vals) ⊛ ‵ (flent κ' ((arr_parts (shares R) (length ys)).part full_share ys b o))) ⊛ raw (lfts 𝓛 ts)))
        (lends_shr_slice 𝓛 R ℓ' κ' full_share ys b o p.1 l s ts inc sp) $ await ! tt $ split ! $ split ! $
        -- [the shared slice; the lender's part at κ'; the tokens; the open borrow at κ; obs γ; auth γ]
        at_once ! $ move ! (4 ∷ 5 ∷ []) $ fjoin ! $ move ! (4 ∷ 0 ∷ []) $ fjoin ! $ move ! (2 ∷ 0 ∷ []) $ fjoin ! $ move ! (1 ∷ 0 ∷ []) $ join ! $ join ! $ done !)

    pub shared_back : Room R (length ys) → ent 𝓤 (sep 𝓤 (A.dead κ') (sem 𝓛 (LentShared ys))) (H.⇛ (sep 𝓤 (sem 𝓛 ((MutSlice ℓ κ R).own_val (at_list γ ys) vals)) (A.lft κ q)))
    shared_back room =
        qed 𝓛 (‵ (fdead κ') ∷ ‵ (LentShared ys) ∷ []) ∵ updating ! $ move ! (1 ∷ []) $ fsplit ! $ move ! (2 ∷ 0 ∷ []) $ lent_back ! tt $ fsplit ! $ drop ! $
        -- [the row; the open borrow with obs γ and auth γ]
        move ! (1 ∷ []) $ fsplit ! $ move ! (1 ∷ []) $ fsplit ! $ move ! (3 ∷ 2 ∷ 0 ∷ 1 ∷ []) $ closes_slice ! tt R ys ys refl b o $ at_once ! $
        fjoin ! $ pure_i ! (mut_slice_at R (at_list γ ys) vals) (tt, (tt, tt)) (refl, room) $ fjoin ! $ done !
