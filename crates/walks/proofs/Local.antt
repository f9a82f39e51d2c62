-- A local array `[T; n]` of plain data, in its place: made by a repeat, lent whole as a `&mut [T]` or as a `&[T]` for a call, and home again.
--     repeats          `_k = [x; n]`: the array is n times x, at a machine value that a proof need not look into
--     spells_whole     `_a = &_p; _b = {_a, n}`: the array in local p is spelled as a slice in local b
--     lends_array      the array in local k is lent, for a lifetime ν that is made here: the callee has the slice and the whole token, and the lender's part stands in the array's place
--     array_home       ν is ended, and the array stands in its place at the last list that the callee has told
--     lends_array_shared, array_shared_home        the same of a `&[T]`, given that sharing T asks for no lifetime: the array stands in its place at the list that was lent
-- Assumes `Logic`.
use mathlib.Core.Path.{◌≡◌, refl, sym, subst}
use Prim.Native.Nat.{ℕ, suc, ◌^◌}
use mathlib.Core.List.{List, [], ◌∷◌, ◌++◌}
use lib.Dec.{T as Holds, ltb, lit<}
use lib.ListN.{length, replicate}
use seplogic.Ra.Ura.{Ura}
use base.Fraction.{full_share}
use mir.Syntax.{Ty, Lifetime, Mutability, Opd as Operand, Body, place, copy, int, addr_of, aggregate, repeat, seq, assign, w64, ty_ref, ty_array}
use mir.Val.{Val, vptr}
use base.Logic.{ent, sep, via, mono_r}
use base.Fml.{Incl-refl, GName, Fml, fat, froom, flft, flent}
use prog.Wp.{Env, Calls, Loops, spot_of}
use types.Logic.{Logic}
use types.Kit.{Item, Goal, Post, Soaks, Seq, Step, step, mean, nth, del, put, pull, fill, push, pop, ++⊢, ⊢++, ⋆, ‵, ◌⊛◌, some, later, runs, ◌$◌, move, drop, use1, use2, use3, split, pick, rewrite, fsplit, fpick, await}
use types.Part.{agg, rep}
use types.Run.{Opd, look, init, stop, load, lit, and_then, no_more, addr, assigns}
use types.SemTy.{cells, Arr}
use types.Share.{arr_parts}
use types.Tokens.{lft_new, lft_end, lent_back}
use denote.RattleType.{RattleType}
use denote.Shares.{SharesAsFrom}
use denote.Laws.{Is, Makes, Lawful, shows}
use denote.Memory.{cell_at, lone, part_at, mem, shares, shared_of, part_of}
use denote.Array.{Array, array_val, Array-Typed}
use denote.ArrayMemory.{Single, Array-whole}
use denote.Ref.{MutBor}
use denote.Slice.{slice_ty, slice_val, MutSlice, ShrSlice, Room, finally}
use denote.Lend.{Held, lends_slice, slice_back, lends_shr_slice}
use denote.Steps.{peeks}
use Rattle.walks.proofs.Lent.{is_array, array_parts, array_cells, cells_parts}
use Rattle.walks.proofs.Passing.{found}
use Rattle.walks.proofs.Shared.{none_within, shared_list}

-- what a slice at (b, 0) denotes, under the name δ at the list l
abbrev slice : {D : Type 0} → ℕ → GName → List D → MutBor (List D)
slice b δ l = record { ref_ptr = (b, 0); ghost_name = δ; now = l }

-- the whole share of the elements of an array at (b, 0)
abbrev elements : (R : RattleType) → ℕ → List R.Denot → ℕ → Fml
elements R n ys b = (arr_parts (shares R) n).part full_share ys b 0

-- entry k is taken out, and another is put where it stood
out_of : {M : Type 1} {𝓤 : Ura M} {𝓛 : Logic 𝓤} {K : Type 0} {Γ : List (Item 𝓤)} {G : Goal 𝓤 𝓛.H} (k : ℕ) {i : Item 𝓤} → nth 𝓛 k Γ ≡ i → Step K 𝓛 (i ∷ del 𝓛 k Γ) G Γ G
out_of {M} {𝓤} {𝓛} {K} {Γ} k {i} e = step (λ s. record { prf = via 𝓤 _ (subst (λ (j : Item 𝓤). ent 𝓤 (⋆ 𝓛 Γ) (sep 𝓤 (mean 𝓛 j) (⋆ 𝓛 (del 𝓛 k Γ)))) e (pull 𝓛 k Γ)) (via 𝓤 _ (push 𝓛 i (del 𝓛 k Γ)) s.prf) })

back_to : {M : Type 1} {𝓤 : Ura M} {𝓛 : Logic 𝓤} {K : Type 0} {G : Goal 𝓤 𝓛.H} (k : ℕ) (j : Item 𝓤) (Δ Γ : List (Item 𝓤)) → Step K 𝓛 (Δ ++ put 𝓛 k j Γ) G (Δ ++ (j ∷ del 𝓛 k Γ)) G
back_to {M} {𝓤} {𝓛} k j Δ Γ = step (λ s. record {
  prf = via 𝓤 _ (⊢++ 𝓛 Δ (j ∷ del 𝓛 k Γ)) (via 𝓤 _ (mono_r 𝓤 (⋆ 𝓛 Δ) (via 𝓤 _ (pop 𝓛 j (del 𝓛 k Γ)) (fill 𝓛 k j Γ))) (via 𝓤 _ (++⊢ 𝓛 Δ (put 𝓛 k j Γ)) s.prf));
})

module _ {M : Type 1} {𝓤 : Ura M} {𝓛 : Logic 𝓤} {K : Type 0} (Γ : List (Item 𝓤)) {G : Goal 𝓤 𝓛.H} where
  -- the whole share of its elements is the array, which stands in its place again
  stands : K → (R : RattleType) (k : ℕ) (zs : List R.Denot) (n b : ℕ) → ((v : Val) → Is (Array R n) zs (v ∷ []) → Seq K 𝓛 (put 𝓛 k (‵ (fat full_share (ty_array (lone R.mir) n) b 0 v)) Γ) G) → Seq K 𝓛 (‵ (elements R n zs b) ∷ del 𝓛 k Γ) G
  unfolding part_of
  stands t R k zs n b c =
      use1 𝓛 (‵ (part_at (Array R n) full_share zs b 0)) (Array-whole 𝓛 R full_share n zs b 0) $
      fpick t (λ vs. fsplit t $ move t (1 ∷ []) $ peeks t (Array R n) (Is (Array R n)) (shows 𝓛 (Array R n)) zs vs (λ is. drop t $ rewrite t 0 (λ (ws : List Val). ‵ (cell_at full_share (Array R n).mir ws b 0)) is.1.0.0 refl $
      use1 𝓛 (‵ (fat full_share (ty_array (lone R.mir) n) b 0 (array_val is.0))) (𝓛.laws.raw_at full_share (ty_array (lone R.mir) n) b 0 (array_val is.0)) $
      back_to k (‵ (fat full_share (ty_array (lone R.mir) n) b 0 (array_val is.0))) [] Γ $ c (array_val is.0) (subst (λ (ws : List Val). Is (Array R n) zs ws) is.1.0.0 is)))

module _ {M : Type 1} {𝓤 : Ura M} {𝓛 : Logic 𝓤} {K : Type 0} {Γ : List (Item 𝓤)} {G : Goal 𝓤 𝓛.H} where
  pub lends_array : K → Soaks G → (R : RattleType) → Single R.mir → Makes 𝓛 R (Is R) → (ℓ : Lifetime) (k : ℕ) (ys : List R.Denot) {n b : ℕ} {v : Val} → nth 𝓛 k Γ ≡ ‵ (fat full_share (ty_array (lone R.mir) n) b 0 v) → Is (Array R n) ys (v ∷ []) → Room R n
      → ((ν : ℕ) (δ : GName) → Seq K 𝓛 (‵ ((MutSlice ℓ (ν ∷ []) R).own_val (slice b δ ys) (slice_val (b, 0) n ∷ [])) ∷ ‵ (flft (ν ∷ []) full_share) ∷ put 𝓛 k (‵ (flent (ν ∷ []) (Held R n b 0 δ))) Γ) G)
      → Seq K 𝓛 Γ G
  lends_array t s R one mk ℓ k ys {n} {b} {v} e is room c =
      out_of k e $ use1 𝓛 (‵ (cells (mem R) ys b 0)) (array_cells 𝓛 R one mk n b ys v is) $ lft_new t s (λ ν. move t (1 ∷ []) $
      use1 𝓛 (later (some (λ (δ : GName). ‵ ((MutSlice ℓ (ν ∷ []) R).own_val (slice b δ ys) (slice_val (b, 0) (length ys) ∷ [])) ⊛ ‵ (flent (ν ∷ []) (Held R (length ys) b 0 δ))))) (lends_slice 𝓛 R ℓ (ν ∷ []) ys b 0 (subst (Room R) (sym is.1.0.1) room)) $ await t s $ pick t (λ δ. split t $
      rewrite t 0 (λ (m : ℕ). ‵ ((MutSlice ℓ (ν ∷ []) R).own_val (slice b δ ys) (slice_val (b, 0) m ∷ []))) is.1.0.1 refl $ rewrite t 1 (λ (m : ℕ). ‵ (flent (ν ∷ []) (Held R m b 0 δ))) is.1.0.1 refl $
      move t (0 ∷ 2 ∷ 1 ∷ []) $ back_to k (‵ (flent (ν ∷ []) (Held R n b 0 δ))) (‵ ((MutSlice ℓ (ν ∷ []) R).own_val (slice b δ ys) (slice_val (b, 0) n ∷ [])) ∷ ‵ (flft (ν ∷ []) full_share) ∷ []) Γ $ c ν δ))

  pub array_home : K → Soaks G → (R : RattleType) (k : ℕ) (zs : List R.Denot) {n b ν : ℕ} {δ : GName} → nth 𝓛 k Γ ≡ ‵ (flent (ν ∷ []) (Held R n b 0 δ))
      → ((v : Val) → Is (Array R n) zs (v ∷ []) → Seq K 𝓛 (put 𝓛 k (‵ (fat full_share (ty_array (lone R.mir) n) b 0 v)) Γ) G)
      → Seq K 𝓛 (‵ (flft (ν ∷ []) full_share) ∷ ‵ (finally R δ zs) ∷ Γ) G
  array_home t s R k zs {n} {b} {ν} {δ} e c =
      lft_end t s $ out_of (suc (suc k)) e $ move t (1 ∷ 0 ∷ []) $ use3 𝓛 (later (‵ ((Arr (mem R) n).own_at zs b 0))) (slice_back 𝓛 R (ν ∷ []) δ zs n b 0) $ await t s $ use1 𝓛 (‵ (elements R n zs b)) (cells_parts 𝓛 R n b zs) $ stands Γ t R k zs n b c

  pub lends_array_shared : K → Soaks G → (R : RattleType) → SharesAsFrom 𝓛 full_share R (shared_of R) [] → Single R.mir → Makes 𝓛 R (Is R) → (ℓ : Lifetime) (k : ℕ) (ys : List R.Denot) {n b : ℕ} {v : Val} → nth 𝓛 k Γ ≡ ‵ (fat full_share (ty_array (lone R.mir) n) b 0 v) → Is (Array R n) ys (v ∷ []) → Room R n
      → ((ν : ℕ) → Seq K 𝓛 (‵ ((ShrSlice ℓ (ν ∷ []) R).own_val (shared_list R b 0 ys) (slice_val (b, 0) n ∷ [])) ∷ ‵ (flft (ν ∷ []) full_share) ∷ put 𝓛 k (‵ (flent (ν ∷ []) (elements R n ys b))) Γ) G)
      → Seq K 𝓛 Γ G
  lends_array_shared t s R sh one mk ℓ k ys {n} {b} {v} e is room c =
      out_of k e $ use1 𝓛 (‵ (elements R n ys b)) (array_parts 𝓛 R one mk n b ys v is) $ rewrite t 0 (λ (m : ℕ). ‵ (elements R m ys b)) (sym is.1.0.1) refl $ lft_new t s (λ ν. move t (1 ∷ []) $
      use2 𝓛 (later ((‵ ((ShrSlice ℓ (ν ∷ []) R).own_val (shared_list R b 0 ys) (slice_val (b, 0) (length ys) ∷ [])) ⊛ ‵ (flent (ν ∷ []) (elements R (length ys) ys b))) ⊛ ‵ (flft (ν ∷ []) full_share)))
      (lends_shr_slice 𝓛 R ℓ (ν ∷ []) full_share ys b 0 (subst (Room R) (sym is.1.0.1) room) [] sh ((ν ∷ [], full_share) ∷ []) (none_within (ν ∷ [])) (Incl-refl (ν ∷ []))) $ await t s $ split t $ split t $
      rewrite t 0 (λ (m : ℕ). ‵ ((ShrSlice ℓ (ν ∷ []) R).own_val (shared_list R b 0 ys) (slice_val (b, 0) m ∷ []))) is.1.0.1 refl $ rewrite t 1 (λ (m : ℕ). ‵ (flent (ν ∷ []) (elements R m ys b))) is.1.0.1 refl $
      move t (0 ∷ 2 ∷ 1 ∷ []) $ back_to k (‵ (flent (ν ∷ []) (elements R n ys b))) (‵ ((ShrSlice ℓ (ν ∷ []) R).own_val (shared_list R b 0 ys) (slice_val (b, 0) n ∷ [])) ∷ ‵ (flft (ν ∷ []) full_share) ∷ []) Γ $ c ν)

  pub array_shared_home : K → Soaks G → (R : RattleType) (k : ℕ) (ys : List R.Denot) (n b : ℕ) {ν : ℕ} → nth 𝓛 k Γ ≡ ‵ (flent (ν ∷ []) (elements R n ys b))
      → ((v : Val) → Is (Array R n) ys (v ∷ []) → Seq K 𝓛 (put 𝓛 k (‵ (fat full_share (ty_array (lone R.mir) n) b 0 v)) Γ) G)
      → Seq K 𝓛 (‵ (flft (ν ∷ []) full_share) ∷ Γ) G
  array_shared_home t s R k ys n b e c = lft_end t s $ out_of (suc k) e $ move t (1 ∷ 0 ∷ []) $ lent_back t s $ stands Γ t R k ys n b c

module _ {M : Type 1} {𝓤 : Ura M} {𝓛 : Logic 𝓤} {K : Type 0} {Γ : List (Item 𝓤)} where
  -- local k stands at k
  open 𝓛 use {H}

  pub repeats : K → {E : Env 𝓤 H} {C : Calls 𝓤 H} {Λ : Loops 𝓤 H} {Q : Post 𝓤 H} {k n b : ℕ} {y : Operand} {then : Body} (R : RattleType) → Lawful 𝓛 R → (x : R.Denot) {u : Val} → Is R x (u ∷ []) → Opd K 𝓛 Γ E y u
      → nth 𝓛 k Γ ≡ ‵ (froom (ty_array (lone R.mir) n) b 0) → spot_of 𝓤 H E k ≡ (ty_array (lone R.mir) n, b, 0)
      → ((ys : List R.Denot) (v : Val) → ys ≡ replicate n x → Is (Array R n) ys (v ∷ []) → Seq K 𝓛 (put 𝓛 k (‵ (fat full_share (ty_array (lone R.mir) n) b 0 v)) Γ) (runs C Λ E then Q))
      → Seq K 𝓛 Γ (runs C Λ E (seq (assign (place k []) (repeat y n)) then) Q)
  repeats t {k = k} {n = n} R law x {u} is o e at c =
      assigns t (rep t n o) (found t at (stop t)) (init t k e (Array-Typed R law.typed n (replicate n x) (array_val (replicate n u) ∷ []) (is_array R x u is n)).0) $ c (replicate n x) (array_val (replicate n u)) refl (is_array R x u is n)

  -- the statements' locals are p, a and b, and local k stands at k: each of the six is `refl`
  pub spells_whole : K → {E : Env 𝓤 H} {C : Calls 𝓤 H} {Λ : Loops 𝓤 H} {Q : Post 𝓤 H} {p a b n : ℕ} {then : Body} {ℓ : Lifetime} {μ : Mutability} {σ τ : Ty} {ρ : Ty} {lp la lb : ℕ}
      → (nth 𝓛 a Γ ≡ ‵ (froom (ty_ref ℓ μ σ) la 0)) × (nth 𝓛 a (put 𝓛 a (‵ (fat full_share (ty_ref ℓ μ σ) la 0 (vptr lp 0))) Γ) ≡ ‵ (fat full_share (ty_ref ℓ μ σ) la 0 (vptr lp 0)))
      × (nth 𝓛 b (put 𝓛 a (‵ (fat full_share (ty_ref ℓ μ σ) la 0 (vptr lp 0))) Γ) ≡ ‵ (froom (slice_ty (ty_ref ℓ μ τ)) lb 0))
      × (spot_of 𝓤 H E p ≡ (ρ, lp, 0)) × (spot_of 𝓤 H E a ≡ (ty_ref ℓ μ σ, la, 0)) × (spot_of 𝓤 H E b ≡ (slice_ty (ty_ref ℓ μ τ), lb, 0))
      → Holds (ltb n (2 ^ 64))
      → Step K 𝓛 (put 𝓛 b (‵ (fat full_share (slice_ty (ty_ref ℓ μ τ)) lb 0 (slice_val (lp, 0) n))) (put 𝓛 a (‵ (fat full_share (ty_ref ℓ μ σ) la 0 (vptr lp 0))) Γ)) (runs C Λ E then Q)
      Γ (runs C Λ E (seq (assign (place a []) (addr_of (place p []))) (seq (assign (place b []) (aggregate (copy (place a []) ∷ int w64 n ∷ []))) then)) Q)
  spells_whole t {a = a} {b = b} e fits = step (λ s.
      assigns t (addr t (found t e.3 (stop t))) (found t e.4 (stop t)) (init t a e.0 (tt, tt)) $
      assigns t (agg t (and_then t (load t (found t e.4 (stop t)) (look t a e.1)) (and_then t (lit t fits) (no_more t)))) (found t e.5 (stop t)) (init t b e.2 (tt, (tt, (record { fits = lit< fits }, tt)))) $ s)
