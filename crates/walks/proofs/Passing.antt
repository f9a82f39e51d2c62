-- A slice that a function has been lent, and passes on to a callee.
--     turn             the first m entries of the context go to its end, so that the locals come first again
--     told             what a callee leaves of a `&mut [T]`: its last list, and that it is as long as the list that was passed
--     spells_again     `_a = &*_p.0; _b = {_a, _p.1}`: the slice in local p is spelled again in local b
--     lends_out        of plain data, a `&κ mut [T]` with κ's token is lent as a `&ν [T]`, for a lifetime ν that is made here: the callee has the slice and the whole token, the holder keeps `LentShared`
--     comes_in         ν is ended, and the slice stands as it did, with κ's token
-- Assumes `Logic`.
use mathlib.Core.Path.{◌≡◌, refl, sym, ap, subst}
use Prim.Native.Nat.{ℕ, zero, suc, ◌<◌, ◌^◌}
use mathlib.Core.List.{List, [], ◌∷◌, ◌++◌}
use lib.ListN.{length}
use seplogic.Ra.Ura.{Ura}
use base.Fraction.{full_share}
use mir.Syntax.{Ty, Lifetime, Mutability, Step as PStep, Body, place, field, deref, copy, addr_of, aggregate, seq, assign, w64, ty_int, ty_ref}
use mir.Val.{vint, vptr, vstruct, vnil, vcons}
use base.Logic.{via, comm∗}
use base.Fml.{Incl-refl, Fml, fsep, feq, Lft, GName, Share, fat, froom, flft}
use prog.Wp.{Env, Spot, Calls, Loops, spot_of}
use types.Logic.{Logic}
use types.Kit.{Item, Goal, Post, Soaks, Seq, Step, step, ‵, nth, put, ◌⊛◌, later, ++⊢, ⊢++, ⋆, runs, ◌$◌, move, use2, use3, split, rewrite, fsplit, feq_l, await}
use types.Part.{Part, whole, sub, look_in, agg}
use types.Run.{Reads, Walks, Finds, look, init, stop, hop, fld, from, load, and_then, no_more, addr, assigns}
use types.Tokens.{lft_new, lft_end}
use denote.RattleType.{RattleType}
use denote.Shares.{SharesAsFrom}
use denote.Memory.{shared_of}
use denote.Ref.{MutBor}
use denote.Slice.{slice_ty, slice_val, MutSlice, ShrSlice, Room}
use Rattle.walks.proofs.Shared.{none_within, shared_list, LentShared, lends_shared, shared_back}

-- what a slice at (b, o) denotes, under the name δ at the list l
abbrev slice : {D : Type 0} → ℕ → ℕ → GName → List D → MutBor (List D)
slice b o δ l = record { ref_ptr = (b, o); ghost_name = δ; now = l }

abbrev front : {X : Type 2} → ℕ → List X → List X
front zero l = []
front (suc m) [] = []
front (suc m) (x ∷ l) = x ∷ front m l

abbrev rest : {X : Type 2} → ℕ → List X → List X
rest zero l = l
rest (suc m) [] = []
rest (suc m) (x ∷ l) = rest m l

apart : {X : Type 2} (m : ℕ) (l : List X) → front m l ++ rest m l ≡ l
apart zero l = refl
apart (suc m) [] = refl
apart {X} (suc m) (x ∷ l) = ap (λ (k : List X). x ∷ k) (apart m l)

module _ {M : Type 1} {𝓤 : Ura M} {𝓛 : Logic 𝓤} {K : Type 0} {Γ : List (Item 𝓤)} {G : Goal 𝓤 𝓛.H} where
  pub turn : K → (m : ℕ) → Step K 𝓛 (rest m Γ ++ front m Γ) G Γ G
  turn t m = step (λ s. subst (λ (Δ : List (Item 𝓤)). Seq K 𝓛 Δ G) (apart m Γ) (record {
    prf = via 𝓤 _ (⊢++ 𝓛 (front m Γ) (rest m Γ)) (via 𝓤 _ (comm∗ 𝓤 (⋆ 𝓛 (front m Γ)) (⋆ 𝓛 (rest m Γ))) (via 𝓤 _ (++⊢ 𝓛 (rest m Γ) (front m Γ)) s.prf));
  }))

  pub told : K → {P : Fml} {X : Type 0} {x y : X} → (x ≡ y → Seq K 𝓛 (‵ P ∷ Γ) G) → Seq K 𝓛 (‵ (fsep P (feq X x y)) ∷ Γ) G
  told t k = fsplit t $ move t (1 ∷ []) $ feq_l t k

  pub lends_out : K → Soaks G → (R : RattleType) → SharesAsFrom 𝓛 full_share R (shared_of R) [] → (ℓ ℓ' : Lifetime) {κ : Lft} {q : Share} {γ : GName} {b o : ℕ} (l : List R.Denot) {n : ℕ} → length l ≡ n
      → ((ν : ℕ) → Seq K 𝓛 (‵ ((ShrSlice ℓ' (ν ∷ []) R).own_val (shared_list R b o l) (slice_val (b, o) n ∷ [])) ∷ ‵ (flft (ν ∷ []) full_share) ∷ ‵ (LentShared R κ (ν ∷ []) q γ b o l) ∷ Γ) G)
      → Seq K 𝓛 (‵ ((MutSlice ℓ κ R).own_val (slice b o γ l) (slice_val (b, o) n ∷ [])) ∷ ‵ (flft κ q) ∷ Γ) G
  lends_out t s R sh ℓ ℓ' {κ} {q} {γ} {b} {o} l e k =
      rewrite t 0 (λ (m : ℕ). ‵ ((MutSlice ℓ κ R).own_val (slice b o γ l) (slice_val (b, o) m ∷ []))) (sym e) refl $ lft_new t s (λ ν. move t (1 ∷ 2 ∷ []) $
      use3 𝓛 (later ((‵ ((ShrSlice ℓ' (ν ∷ []) R).own_val (shared_list R b o l) (slice_val (b, o) (length l) ∷ [])) ⊛ ‵ (LentShared R κ (ν ∷ []) q γ b o l)) ⊛ ‵ (flft (ν ∷ []) full_share)))
      (lends_shared R κ (ν ∷ []) q γ b o 𝓛 ℓ ℓ' l [] sh ((ν ∷ [], full_share) ∷ []) (none_within (ν ∷ [])) (Incl-refl (ν ∷ []))) $ await t s $ split t $ split t $
      rewrite t 0 (λ (m : ℕ). ‵ ((ShrSlice ℓ' (ν ∷ []) R).own_val (shared_list R b o l) (slice_val (b, o) m ∷ []))) e refl $ move t (0 ∷ 2 ∷ 1 ∷ []) $ k ν)

  pub comes_in : K → Soaks G → (R : RattleType) (ℓ : Lifetime) {κ : Lft} {q : Share} {γ : GName} {ν b o : ℕ} (l : List R.Denot) {n : ℕ} → length l ≡ n → Room R n
      → Step K 𝓛 (‵ ((MutSlice ℓ κ R).own_val (slice b o γ l) (slice_val (b, o) n ∷ [])) ∷ ‵ (flft κ q) ∷ Γ) G (‵ (flft (ν ∷ []) full_share) ∷ ‵ (LentShared R κ (ν ∷ []) q γ b o l) ∷ Γ) G
  comes_in t s R ℓ {κ} {q} {γ} {ν} {b} {o} l e room = step (λ k.
      lft_end t s $ use2 𝓛 (later (‵ ((MutSlice ℓ κ R).own_val (slice b o γ l) (slice_val (b, o) (length l) ∷ [])) ⊛ ‵ (flft κ q))) (shared_back R κ (ν ∷ []) q γ b o 𝓛 ℓ ℓ l (subst (Room R) (sym e) room)) $
      await t s $ split t $ rewrite t 0 (λ (m : ℕ). ‵ ((MutSlice ℓ κ R).own_val (slice b o γ l) (slice_val (b, o) m ∷ []))) e refl $ k)

module _ {M : Type 1} {𝓤 : Ura M} {𝓛 : Logic 𝓤} {K : Type 0} {Γ : List (Item 𝓤)} where
  open 𝓛 use {H}

  pub found : K → {E : Env 𝓤 H} {i : ℕ} {st : List PStep} {sp sp' : Spot 𝓤 H} → spot_of 𝓤 H E i ≡ sp → Walks K 𝓛 Γ E sp st sp' → Finds K 𝓛 Γ E (place i st) sp'
  found t {E} {i} {st} {sp} {sp'} e w = from t (subst (λ (s : Spot 𝓤 H). Walks K 𝓛 Γ E s st sp') (sym e) w)

  pointer : K → (p : ℕ) {ℓ : Lifetime} {μ : Mutability} {σ : Ty} {lp bs os n : ℕ} → nth 𝓛 p Γ ≡ ‵ (fat full_share (slice_ty (ty_ref ℓ μ σ)) lp 0 (slice_val (bs, os) n)) → Reads K 𝓛 Γ (ty_ref ℓ μ σ) lp 0 (vptr bs os)
  pointer t p {ℓ} {μ} {σ} {lp} {bs} {os} {n} e = look_in t p {back = λ u. ‵ (fat full_share (slice_ty (ty_ref ℓ μ σ)) lp 0 (vstruct (vcons u (vcons (vint w64 n) vnil))))} (subst (λ (i : Item 𝓤). Part K 𝓛 i full_share (ty_ref ℓ μ σ) lp 0 (vptr bs os) (λ u. ‵ (fat full_share (slice_ty (ty_ref ℓ μ σ)) lp 0 (vstruct (vcons u (vcons (vint w64 n) vnil)))))) (sym e) (sub t 0 refl (whole t)))

  count : K → (p : ℕ) {ℓ : Lifetime} {μ : Mutability} {σ : Ty} {lp bs os n : ℕ} → nth 𝓛 p Γ ≡ ‵ (fat full_share (slice_ty (ty_ref ℓ μ σ)) lp 0 (slice_val (bs, os) n)) → Reads K 𝓛 Γ (ty_int w64) lp 8 (vint w64 n)
  count t p {ℓ} {μ} {σ} {lp} {bs} {os} {n} e = look_in t p {back = λ u. ‵ (fat full_share (slice_ty (ty_ref ℓ μ σ)) lp 0 (vstruct (vcons (vptr bs os) (vcons u vnil))))} (subst (λ (i : Item 𝓤). Part K 𝓛 i full_share (ty_int w64) lp 8 (vint w64 n) (λ u. ‵ (fat full_share (slice_ty (ty_ref ℓ μ σ)) lp 0 (vstruct (vcons (vptr bs os) (vcons u vnil)))))) (sym e) (sub t 1 refl (whole t)))

module _ {M : Type 1} {𝓤 : Ura M} {𝓛 : Logic 𝓤} {K : Type 0} {Γ : List (Item 𝓤)} where
  -- the statements' locals are p, a and b, and local k stands at k: each of the eight is `refl`
  open 𝓛 use {H}

  pub spells_again : K → {E : Env 𝓤 H} {C : Calls 𝓤 H} {Λ : Loops 𝓤 H} {Q : Post 𝓤 H} {p a b : ℕ} {τ : Ty} {then : Body} {ℓ ℓ' : Lifetime} {μ μ' : Mutability} {σ σ' : Ty} {lp la lb bs os n : ℕ}
      → (nth 𝓛 p Γ ≡ ‵ (fat full_share (slice_ty (ty_ref ℓ μ σ)) lp 0 (slice_val (bs, os) n))) × (nth 𝓛 a Γ ≡ ‵ (froom (ty_ref ℓ' μ' σ') la 0))
      × (nth 𝓛 p (put 𝓛 a (‵ (fat full_share (ty_ref ℓ' μ' σ') la 0 (vptr bs os))) Γ) ≡ ‵ (fat full_share (slice_ty (ty_ref ℓ μ σ)) lp 0 (slice_val (bs, os) n)))
      × (nth 𝓛 a (put 𝓛 a (‵ (fat full_share (ty_ref ℓ' μ' σ') la 0 (vptr bs os))) Γ) ≡ ‵ (fat full_share (ty_ref ℓ' μ' σ') la 0 (vptr bs os)))
      × (nth 𝓛 b (put 𝓛 a (‵ (fat full_share (ty_ref ℓ' μ' σ') la 0 (vptr bs os))) Γ) ≡ ‵ (froom (slice_ty (ty_ref ℓ' μ' σ')) lb 0))
      × (spot_of 𝓤 H E p ≡ (slice_ty (ty_ref ℓ μ σ), lp, 0)) × (spot_of 𝓤 H E a ≡ (ty_ref ℓ' μ' σ', la, 0)) × (spot_of 𝓤 H E b ≡ (slice_ty (ty_ref ℓ' μ' σ'), lb, 0))
      → n < 2 ^ 64
      → Step K 𝓛 (put 𝓛 b (‵ (fat full_share (slice_ty (ty_ref ℓ' μ' σ')) lb 0 (slice_val (bs, os) n))) (put 𝓛 a (‵ (fat full_share (ty_ref ℓ' μ' σ') la 0 (vptr bs os))) Γ)) (runs C Λ E then Q)
      Γ (runs C Λ E (seq (assign (place a []) (addr_of (place p (field 0 ∷ deref τ ∷ [])))) (seq (assign (place b []) (aggregate (copy (place a []) ∷ copy (place p (field 1 ∷ [])) ∷ []))) then)) Q)
  spells_again t {p = p} {a = a} {b = b} {ℓ = ℓ} {μ = μ} {σ = σ} e fits = step (λ s.
      assigns t (addr t (found t e.5 (fld t refl (hop t (pointer t p e.0) (stop t))))) (found t e.6 (stop t)) (init t a e.1 (tt, tt)) $
      assigns t (agg t (and_then t (load t (found t e.6 (stop t)) (look t a e.3)) (and_then t (load t (found t e.5 (fld t refl (stop t))) (count t p e.2)) (no_more t)))) (found t e.7 (stop t)) (init t b e.4 (tt, (tt, (record { fits = fits }, tt)))) $ s)
