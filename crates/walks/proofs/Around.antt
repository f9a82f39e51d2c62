-- What surrounds a call in a walk by hand, as steps of the calculus: what the callee gives, and a `&mut [T]` that is lent for the call and comes back.
--     given_back       what a callee gives once it has returned v: the tokens, the result, the last values, and what it ensures of them
--     gives            the same where there are no last values and the result is plain: what is ensured is known, and the tokens are back
--     lends_on         a `&κ mut [T]` with κ's token is lent again, for a lifetime ν that is made here: the callee has the slice and the whole token, the holder keeps `LentAgain`
--     comes_home       ν is ended, and the slice stands at the last list that the callee has told, with κ's token
-- A slice's machine value stays the one that was passed, of n elements: a list that changes only has to stay as long.
-- Assumes `Logic`.
use mathlib.Core.Path.{◌≡◌, refl, sym, subst}
use Prim.Native.Nat.{ℕ}
use mathlib.Core.List.{List, [], ◌∷◌}
use lib.ListN.{length}
use seplogic.Ra.Ura.{Ura}
use base.Fraction.{full_share}
use mir.Syntax.{Lifetime}
use mir.Val.{Val}
use base.Logic.{ent, id⊢}
use base.Fml.{Lft, GName, Share, flft}
use types.Logic.{Logic}
use contract.Monad.{fact}
use types.Kit.{Item, Goal, Soaks, Seq, Step, step, mean, ‵, raw, ◌⊛◌, some, later, ◌$◌, move, drop, use1, use2, use3, split, pick, rewrite, await}
use types.Tokens.{lft_new, lft_end}
use denote.RattleType.{RattleType}
use denote.Laws.{Is, shows}
use denote.Signature.{type_at}
use denote.Steps.{heard, facts}
use denote.Ref.{MutBor}
use denote.Slice.{slice_val, MutSlice, Room, finally}
use denote.Triple.Entry.{Res, alive}
use denote.Triple.Bound.{Bound}
use denote.Triple.Spec.{triple_of}
use denote.Triple.Clauses.{Ended, Clauses, Lasts, at_exit, lasts, closing}
use Rattle.walks.proofs.Again.{LentAgain, lends_again, comes_back}

-- what a slice at (b, o) denotes, under the name δ at the list l
abbrev slice : {D : Type 0} → ℕ → ℕ → GName → List D → MutBor (List D)
slice b o δ l = record { ref_ptr = (b, o); ghost_name = δ; now = l }

module _ {M : Type 1} {𝓤 : Ura M} {𝓛 : Logic 𝓤} {K : Type 0} {Γ : List (Item 𝓤)} {G : Goal 𝓤 𝓛.H} where
  pub given_back : K → Soaks G → (T : Ended) (c : Clauses 𝓤 T) (y : (x : Bound 𝓛 T.signature) × (c x.0 x.3).ghost) (v : Val)
      → ((r : Res T.signature y.0.0) (ws : Lasts T y.0.0 y.0.3) → Seq K 𝓛 (raw (alive 𝓛 T.signature y.0.0 y.0.1) ∷ ‵ ((type_at T.signature.result y.0.0).own_val r (v ∷ [])) ∷ ‵ (lasts T y.0.0 y.0.3 ws) ∷ raw ((c y.0.0 y.0.3).ensures y.1 r (at_exit T y.0.0 y.0.3 ws)) ∷ Γ) G)
      → Seq K 𝓛 (raw ((triple_of 𝓛 T.signature (closing 𝓛 T c)).post y v) ∷ Γ) G
  given_back t s T c y v k =
      use1 𝓛 (later (some (λ (r : Res T.signature y.0.0). (raw (alive 𝓛 T.signature y.0.0 y.0.1) ⊛ ‵ ((type_at T.signature.result y.0.0).own_val r (v ∷ []))) ⊛ some (λ (ws : Lasts T y.0.0 y.0.3). ‵ (lasts T y.0.0 y.0.3 ws) ⊛ raw ((c y.0.0 y.0.3).ensures y.1 r (at_exit T y.0.0 y.0.3 ws)))))) (id⊢ 𝓤 _) $
      await t s $ pick t (λ r. split t $ split t $ move t (2 ∷ []) $ pick t (λ ws. split t $ move t (2 ∷ 3 ∷ 0 ∷ 1 ∷ []) $ k r ws))

  -- the same of a callee that leaves no last values and returns a plain one: what it ensures is heard, the tokens stand for tok, and what the result owns is let go
  pub gives : K → Soaks G → (T : Ended) (c : Clauses 𝓤 T) (y : (x : Bound 𝓛 T.signature) × (c x.0 x.3).ghost) (v : Val)
      → (tok : Item 𝓤) → ent 𝓤 (alive 𝓛 T.signature y.0.0 y.0.1) (mean 𝓛 tok)
      → (φ : Res T.signature y.0.0 → Type 0) → ((r : Res T.signature y.0.0) (ws : Lasts T y.0.0 y.0.3) → ent 𝓤 ((c y.0.0 y.0.3).ensures y.1 r (at_exit T y.0.0 y.0.3 ws)) (fact 𝓤 (φ r)))
      → ((r : Res T.signature y.0.0) → φ r → Is (type_at T.signature.result y.0.0) r (v ∷ []) → Seq K 𝓛 (tok ∷ Γ) G)
      → Seq K 𝓛 (raw ((triple_of 𝓛 T.signature (closing 𝓛 T c)).post y v) ∷ Γ) G
  gives t s T c y v tok back φ says k = given_back t s T c y v (λ r ws.
      use1 𝓛 tok back $ move t (1 ∷ []) $ facts t (type_at T.signature.result y.0.0) (Is (type_at T.signature.result y.0.0)) (shows 𝓛 (type_at T.signature.result y.0.0)) r (v ∷ []) (λ is.
      move t (1 ∷ []) $ drop t $ move t (1 ∷ []) $ use1 𝓛 (raw (fact 𝓤 (φ r))) (says r ws) $ heard t (φ r) (λ e. k r e is)))

  pub lends_on : K → Soaks G → (R : RattleType) (ℓ ℓ' : Lifetime) {κ : Lft} {q : Share} {γ : GName} {b o : ℕ} (l : List R.Denot) {n : ℕ} → length l ≡ n
      → ((ν : ℕ) (δ : GName) → Seq K 𝓛 (‵ ((MutSlice ℓ' (ν ∷ []) R).own_val (slice b o δ l) (slice_val (b, o) n ∷ [])) ∷ ‵ (flft (ν ∷ []) full_share) ∷ ‵ (LentAgain R κ (ν ∷ []) q γ b o δ l) ∷ Γ) G)
      → Seq K 𝓛 (‵ ((MutSlice ℓ κ R).own_val (slice b o γ l) (slice_val (b, o) n ∷ [])) ∷ ‵ (flft κ q) ∷ Γ) G
  lends_on t s R ℓ ℓ' {κ} {q} {γ} {b} {o} l e k =
      rewrite t 0 (λ (m : ℕ). ‵ ((MutSlice ℓ κ R).own_val (slice b o γ l) (slice_val (b, o) m ∷ []))) (sym e) refl $ lft_new t s (λ ν. move t (1 ∷ 2 ∷ []) $
      use2 𝓛 (later (some (λ (δ : GName). ‵ ((MutSlice ℓ' (ν ∷ []) R).own_val (slice b o δ l) (slice_val (b, o) (length l) ∷ [])) ⊛ ‵ (LentAgain R κ (ν ∷ []) q γ b o δ l)))) (lends_again R κ (ν ∷ []) q γ b o 𝓛 ℓ ℓ' l) $ await t s $ pick t (λ δ. split t $
      rewrite t 0 (λ (m : ℕ). ‵ ((MutSlice ℓ' (ν ∷ []) R).own_val (slice b o δ l) (slice_val (b, o) m ∷ []))) e refl $ move t (0 ∷ 2 ∷ 1 ∷ []) $ k ν δ))

  pub comes_home : K → Soaks G → (R : RattleType) (ℓ : Lifetime) {κ : Lft} {q : Share} {γ δ : GName} {ν b o : ℕ} (l zs : List R.Denot) {n : ℕ} → length l ≡ n → length zs ≡ length l → Room R n
      → Step K 𝓛 (‵ ((MutSlice ℓ κ R).own_val (slice b o γ zs) (slice_val (b, o) n ∷ [])) ∷ ‵ (flft κ q) ∷ Γ) G (‵ (flft (ν ∷ []) full_share) ∷ ‵ (LentAgain R κ (ν ∷ []) q γ b o δ l) ∷ ‵ (finally R δ zs) ∷ Γ) G
  comes_home t s R ℓ {κ} {q} {γ} {δ} {ν} {b} {o} l zs e e' room = step (λ k.
      lft_end t s $ use3 𝓛 (later (‵ ((MutSlice ℓ κ R).own_val (slice b o γ zs) (slice_val (b, o) (length l) ∷ [])) ⊛ ‵ (flft κ q))) (comes_back R κ (ν ∷ []) q γ b o 𝓛 ℓ ℓ l δ zs (subst (Room R) (sym e) room) e') $
      await t s $ split t $ rewrite t 0 (λ (m : ℕ). ‵ ((MutSlice ℓ κ R).own_val (slice b o γ zs) (slice_val (b, o) m ∷ []))) e refl $ k)
