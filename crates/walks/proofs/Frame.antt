-- The frame of a walk by hand: a function's locals and arguments, from entry to return.
--     placed ls l      the locals' places, local k at l k.        cells E vs     the values vs stored in the first of them, and room for the rest.        dying E     the right to free each
--     enters           the locals are allocated and the arguments stored: local k stands at k, then the right to free them, then what there was
--     leaves           the function returns the value of local 0, and the locals are freed
-- Assumes `Logic`.
use mathlib.Core.Path.{refl}
use prog.Wp
use Prim.Native.Nat.{ℕ, zero, suc}
use mathlib.Core.List.{List, [], ◌∷◌, ◌++◌}
use lib.Dec.{T as Holds}
use seplogic.Ra.Ura.{Ura}
use base.Fraction.{full_share}
use mir.Syntax.{Ty, Local, local, Fn, return}
use mir.Val.{Val, has_ty, WT}
use base.Logic.{SProp, ent, sep, wand, emp, via, mono_r, wand_i, all_i, guard_i, emp∗}
use base.Fml.{Fml, ftrue, fsep, fat, froom, fdies}
use prog.Wp.{Env, Calls, Loops, Wp, WpFn, alloc, pass, release, at_return}
use types.Logic.{Logic, sem}
use types.Kit.{Item, Seq, Step, step, ‵, raw, ⋆, ◌⊛◌, ++⊢, ⊢++, push, pop, prop, runs, at_ret, ◌$◌, ◌∵◌, !, qed, by, move, use1, use2, drop, split, fsplit, fjoin, suffices, frame, done}
use types.Run.{look, returns}

abbrev first_at : ℕ → (ℕ → ℕ) → ℕ → ℕ
first_at b l zero = b
first_at b l (suc n) = l n

abbrev pub placed : List Local → (ℕ → ℕ) → List (Ty × ℕ)
placed [] l = []
placed (local τ h ∷ ls) l = (τ, l 0) ∷ placed ls (λ n. l (suc n))

unfoldable pub dying : List (Ty × ℕ) → Fml
dying [] = ftrue
dying (e ∷ E) = fsep (fdies e.0 e.1) (dying E)

-- that the values can be stored in the first places
abbrev pub Fitting : List (Ty × ℕ) → List Val → Type 0
Fitting E [] = Unit {0}
Fitting [] (v ∷ vs) = ⊥
Fitting (e ∷ E) (v ∷ vs) = (Holds (has_ty e.0 v) × WT v) × Fitting E vs

-- the same of arguments, which come after the result
abbrev pub Arguments : List (Ty × ℕ) → List Val → Type 0
Arguments [] vs = ⊥
Arguments (e ∷ E) vs = Fitting E vs

module _ {M : Type 1} (𝓤 : Ura M) where
  abbrev pub cells : List (Ty × ℕ) → List Val → List (Item 𝓤)
  cells [] vs = []
  cells (e ∷ E) [] = ‵ (froom e.0 e.1 0) ∷ cells E []
  cells (e ∷ E) (v ∷ vs) = ‵ (fat full_share e.0 e.1 0 v) ∷ cells E vs

  abbrev pub opened : List (Ty × ℕ) → List Val → List (Item 𝓤)
  opened [] vs = []
  opened (e ∷ E) vs = ‵ (froom e.0 e.1 0) ∷ cells E vs

module _ {M : Type 1} {𝓤 : Ura M} (𝓛 : Logic 𝓤) where
  open 𝓛 use {H}

  allocated : (ls : List Local) (P : SProp 𝓤) (K : Env 𝓤 H → SProp 𝓤) → ((l : ℕ → ℕ) → ent 𝓤 (sep 𝓤 (⋆ 𝓛 (cells 𝓤 (placed ls l) [])) (sep 𝓤 (sem 𝓛 (dying (placed ls l))) P)) (K (placed ls l))) → ent 𝓤 P (alloc 𝓤 H ls K)
  unfolding dying
  allocated [] P K k = via 𝓤 (sep 𝓤 (emp 𝓤) P) (emp∗ 𝓤 P) (via 𝓤 (sep 𝓤 (emp 𝓤) (sep 𝓤 (emp 𝓤) P)) (mono_r 𝓤 (emp 𝓤) (emp∗ 𝓤 P)) (k (λ n. n)))
  allocated (local τ h ∷ ls) P K k =
      all_i 𝓤 (λ (b : ℕ). wand 𝓤 (sep 𝓤 (H.room τ b 0) (H.dies τ b)) (alloc 𝓤 H ls (λ E. K ((τ, b) ∷ E)))) (λ b. wand_i 𝓤 P (sep 𝓤 (H.room τ b 0) (H.dies τ b)) (alloc 𝓤 H ls (λ E. K ((τ, b) ∷ E)))
      (allocated ls (sep 𝓤 P (sep 𝓤 (H.room τ b 0) (H.dies τ b))) (λ E. K ((τ, b) ∷ E)) (λ l.
      qed 𝓛 (raw (⋆ 𝓛 (cells 𝓤 (placed ls l) [])) ∷ ‵ (dying (placed ls l)) ∷ raw P ∷ ‵ (froom τ b 0) ∷ ‵ (fdies τ b) ∷ []) ∵
      suffices ! _ (k (first_at b l)) $ move ! (3 ∷ 0 ∷ []) $ use2 𝓛 (raw (⋆ 𝓛 (‵ (froom τ b 0) ∷ cells 𝓤 (placed ls l) []))) (push 𝓛 (‵ (froom τ b 0)) (cells 𝓤 (placed ls l) [])) $ frame ! $
      move ! (2 ∷ 0 ∷ []) $ fjoin ! $ frame ! $ done !)))

  stored : (E : Env 𝓤 H) (vs : List Val) (R P : SProp 𝓤) → Fitting E vs → ent 𝓤 (sep 𝓤 (⋆ 𝓛 (cells 𝓤 E vs)) R) P → ent 𝓤 (sep 𝓤 (⋆ 𝓛 (cells 𝓤 E [])) R) (pass 𝓤 H E vs P)
  stored E [] R P fits h = h
  stored [] (v ∷ vs) R P fits h = absurd fits
  stored (e ∷ E) (v ∷ vs) R P fits h =
      via 𝓤 (sep 𝓤 (H.room e.0 e.1 0) (wand 𝓤 (H.at full_share e.0 e.1 0 v) (pass 𝓤 H E vs P)))
      (qed 𝓛 (raw (⋆ 𝓛 (cells 𝓤 (e ∷ E) [])) ∷ raw R ∷ []) ∵ use1 𝓛 (‵ (froom e.0 e.1 0) ⊛ raw (⋆ 𝓛 (cells 𝓤 E []))) (pop 𝓛 (‵ (froom e.0 e.1 0)) (cells 𝓤 E [])) $ split ! $ frame ! $
      by ! (wand_i 𝓤 _ (H.at full_share e.0 e.1 0 v) (pass 𝓤 H E vs P)
      (qed 𝓛 ((raw (⋆ 𝓛 (cells 𝓤 E [])) ⊛ raw R) ∷ ‵ (fat full_share e.0 e.1 0 v) ∷ []) ∵ split ! $
      by ! (stored E vs (sep 𝓤 R (H.at full_share e.0 e.1 0 v)) P fits.1
      (qed 𝓛 (raw (⋆ 𝓛 (cells 𝓤 E vs)) ∷ raw R ∷ ‵ (fat full_share e.0 e.1 0 v) ∷ []) ∵ suffices ! _ h $ move ! (2 ∷ 0 ∷ []) $
      use2 𝓛 (raw (⋆ 𝓛 (cells 𝓤 (e ∷ E) (v ∷ vs)))) (push 𝓛 (‵ (fat full_share e.0 e.1 0 v)) (cells 𝓤 E vs)) $ done !)))))
      (guard_i 𝓤 (Holds (has_ty e.0 v) × WT v) _ fits.0)

  freed : (E : Env 𝓤 H) (vs : List Val) (R P : SProp 𝓤) → ent 𝓤 R P → ent 𝓤 (sep 𝓤 (⋆ 𝓛 (cells 𝓤 E vs)) (sep 𝓤 (sem 𝓛 (dying E)) R)) (release 𝓤 H E P)
  unfolding dying
  freed [] vs R P h = qed 𝓛 (‵ ftrue ∷ ‵ ftrue ∷ raw R ∷ []) ∵ drop ! $ drop ! $ by ! h
  freed (e ∷ E) [] R P h =
      qed 𝓛 (raw (⋆ 𝓛 (cells 𝓤 (e ∷ E) [])) ∷ ‵ (fsep (fdies e.0 e.1) (dying E)) ∷ raw R ∷ []) ∵ use1 𝓛 (‵ (froom e.0 e.1 0) ⊛ raw (⋆ 𝓛 (cells 𝓤 E []))) (pop 𝓛 (‵ (froom e.0 e.1 0)) (cells 𝓤 E [])) $ split ! $
      move ! (2 ∷ []) $ fsplit ! $ move ! (2 ∷ 0 ∷ []) $ fjoin ! $ frame ! $ move ! (1 ∷ 0 ∷ []) $ by ! (freed E [] R P h)
  freed (e ∷ E) (v ∷ vs) R P h =
      qed 𝓛 (raw (⋆ 𝓛 (cells 𝓤 (e ∷ E) (v ∷ vs))) ∷ ‵ (fsep (fdies e.0 e.1) (dying E)) ∷ raw R ∷ []) ∵
      use1 𝓛 (‵ (fat full_share e.0 e.1 0 v) ⊛ raw (⋆ 𝓛 (cells 𝓤 E vs))) (pop 𝓛 (‵ (fat full_share e.0 e.1 0 v)) (cells 𝓤 E vs)) $ split ! $ use1 𝓛 (‵ (froom e.0 e.1 0)) (𝓛.laws.at_room e.0 e.1 0 v) $
      move ! (2 ∷ []) $ fsplit ! $ move ! (2 ∷ 0 ∷ []) $ fjoin ! $ frame ! $ move ! (1 ∷ 0 ∷ []) $ by ! (freed E vs R P h)

  entered : (E : Env 𝓤 H) (vs : List Val) (Γ : List (Item 𝓤)) (P : SProp 𝓤) → Arguments E vs → ent 𝓤 (⋆ 𝓛 (opened 𝓤 E vs ++ (‵ (dying E) ∷ Γ))) P
      → ent 𝓤 (sep 𝓤 (⋆ 𝓛 (cells 𝓤 E [])) (sep 𝓤 (sem 𝓛 (dying E)) (⋆ 𝓛 Γ))) (prog.Wp.params 𝓤 H E vs P)
  entered [] vs Γ P fits h = absurd fits
  entered (e ∷ E) vs Γ P fits h =
      qed 𝓛 (raw (⋆ 𝓛 (cells 𝓤 (e ∷ E) [])) ∷ (‵ (dying (e ∷ E)) ⊛ raw (⋆ 𝓛 Γ)) ∷ []) ∵ use1 𝓛 (‵ (froom e.0 e.1 0) ⊛ raw (⋆ 𝓛 (cells 𝓤 E []))) (pop 𝓛 (‵ (froom e.0 e.1 0)) (cells 𝓤 E [])) $ split ! $
      move ! (1 ∷ 0 ∷ []) $ by ! (stored E vs (sep 𝓤 (H.room e.0 e.1 0) (sep 𝓤 (sem 𝓛 (dying (e ∷ E))) (⋆ 𝓛 Γ))) P fits
      (qed 𝓛 (raw (⋆ 𝓛 (cells 𝓤 E vs)) ∷ ‵ (froom e.0 e.1 0) ∷ ‵ (dying (e ∷ E)) ∷ raw (⋆ 𝓛 Γ) ∷ []) ∵ suffices ! _ h $ move ! (1 ∷ 0 ∷ []) $
      use2 𝓛 (raw (⋆ 𝓛 (opened 𝓤 (e ∷ E) vs))) (push 𝓛 (‵ (froom e.0 e.1 0)) (cells 𝓤 E vs)) $ move ! (1 ∷ 2 ∷ []) $ use2 𝓛 (raw (⋆ 𝓛 (‵ (dying (e ∷ E)) ∷ Γ))) (push 𝓛 (‵ (dying (e ∷ E))) Γ) $ move ! (1 ∷ 0 ∷ []) $
      by ! (++⊢ 𝓛 (opened 𝓤 (e ∷ E) vs) (‵ (dying (e ∷ E)) ∷ Γ))))

module _ {M : Type 1} {𝓤 : Ura M} {𝓛 : Logic 𝓤} {K : Type 0} {Γ : List (Item 𝓤)} where
  open 𝓛 use {H}

  pub enters : K → (C : Calls 𝓤 H) (Λ : Loops 𝓤 H) (f : Fn) (vs : List Val) (Kf : Val → SProp 𝓤) → ((l : ℕ → ℕ) → Arguments (placed f.locals l) vs)
      → ((l : ℕ → ℕ) → Seq K 𝓛 (opened 𝓤 (placed f.locals l) vs ++ (‵ (dying (placed f.locals l)) ∷ Γ)) (runs C Λ (placed f.locals l) f.body (at_ret (placed f.locals l) Kf)))
      → Seq K 𝓛 Γ (prop (WpFn 𝓤 H C Λ f vs Kf))
  unfolding WpFn
  enters t C Λ f vs Kf fits k = record {
    prf = allocated 𝓛 f.locals (⋆ 𝓛 Γ) (λ E. prog.Wp.params 𝓤 H E vs (Wp 𝓤 H C Λ E f.body (at_return 𝓤 H E Kf)))
        (λ l. entered 𝓛 (placed f.locals l) vs Γ (Wp 𝓤 H C Λ (placed f.locals l) f.body (at_return 𝓤 H (placed f.locals l) Kf)) (fits l) (k l).prf);
  }

  pub leaves : K → (vs : List Val) {e : Ty × ℕ} {E : Env 𝓤 H} {C : Calls 𝓤 H} {Λ : Loops 𝓤 H} {Kf : Val → SProp 𝓤} {v : Val}
      → Step K 𝓛 Γ (prop (Kf v)) (cells 𝓤 (e ∷ E) (v ∷ vs) ++ (‵ (dying (e ∷ E)) ∷ Γ)) (runs C Λ (e ∷ E) return (at_ret (e ∷ E) Kf))
  leaves t vs {e} {E} {C} {Λ} {Kf} {v} = step (λ s. returns t (look t 0 refl) $ by t
      (via 𝓤 (sep 𝓤 (⋆ 𝓛 (cells 𝓤 (e ∷ E) (v ∷ vs))) (⋆ 𝓛 (‵ (dying (e ∷ E)) ∷ Γ))) (⊢++ 𝓛 (cells 𝓤 (e ∷ E) (v ∷ vs)) (‵ (dying (e ∷ E)) ∷ Γ))
      (via 𝓤 (sep 𝓤 (⋆ 𝓛 (cells 𝓤 (e ∷ E) (v ∷ vs))) (sep 𝓤 (sem 𝓛 (dying (e ∷ E))) (⋆ 𝓛 Γ))) (mono_r 𝓤 (⋆ 𝓛 (cells 𝓤 (e ∷ E) (v ∷ vs))) (pop 𝓛 (‵ (dying (e ∷ E))) Γ))
      (freed 𝓛 (e ∷ E) (v ∷ vs) (⋆ 𝓛 Γ) (Kf v) s.prf))))
