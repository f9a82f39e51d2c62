-- A call in a walk by hand, by the callee's contract alone.
--     asked S x        what a callee of the signature S takes, entry by entry: what its arguments own, then the tokens of its lifetimes
--     returned T y     what it gives back: the tokens, what the result owns, and for each `&mut` the last value
--     local, into, over        an operand that is a local; and a result that goes into a local, which is empty, or over what it holds
--     calls_into       a call whose result is stored: the operands are read and the result is stored beside what the callee takes and gives, so that local k stands where it stood. What the callee ensures comes first
-- Assumes `Logic`, and that the table of calls is monotone under a frame.
use mathlib.Core.Path.{◌≡◌}
use Prim.Native.Nat.{ℕ, zero, suc}
use mathlib.Core.List.{List, [], ◌∷◌, ◌++◌}
use seplogic.Ra.Ura.{Ura}
use base.Fraction.{full_share}
use mir.Syntax.{Ty, Callee, Place, place, Opd as Operand, copy, Body, seq, call}
use mir.Val.{Val}
use base.Logic.{SProp, ent, sep, wand, emp, id⊢, via, comm∗, mono∗, mono_l, mono_r, snd∗, emp∗, wand_i, apply∗}
use base.Fml.{fat, froom, flft}
use prog.Wp.{Env, Spot, Tables, spot_of, resolve, write, eval_opds}
use types.Logic.{Logic, sem}
use contract.Lifetimes.{Lfts, Shares, toks}
use types.Kit.{Item, Goal, Post, Soaks, Seq, Step, step, ‵, raw, mean, nth, put, ⋆, ◌⊛◌, some, later, ++⊢, ⊢++, push, pop, runs, ◌$◌, ◌∵◌, !, qed, by, move, use1, use2, split, join, pick, await}
use types.Run.{Opd, Opds, Finds, Writes, look, init, store, stop, from, load, land}
use sound.WpLaws.{fm_of, eval_opds_fm, resolve_fm, write_fm}
use denote.RattleType.{RattleType, Denots, Valss, owns}
use denote.Laws.{Is, Typed, Lawful, shows}
use denote.Exit.{Exit, unchanged, leaves, Last, left}
use denote.Signature.{Signature, Slot, type_at, types_at}
use denote.Steps.{peeks}
use denote.Triple.Statement.{Contract, Triple}
use denote.Triple.Call.{calls_at}
use denote.Triple.Entry.{Res, alive, on_entry}
use denote.Triple.Bound.{Bound, passed}
use denote.Triple.Spec.{triple_of}
use denote.Triple.End.{Kepts, Fins, lasts_of}
use denote.Triple.Clauses.{Ended, Clauses, Lasts, at_exit, lasts, closing}

module _ {M : Type 1} (𝓤 : Ura M) where
  abbrev pub tokens : (n : ℕ) → Lfts n → Shares n → List (Item 𝓤)
  tokens zero κs qs = []
  tokens (suc n) κs qs = ‵ (flft κs.0 qs.0) ∷ tokens n κs.1 qs.1

  abbrev pub owners : (Rs : List RattleType) → Denots Rs → Valss Rs → List (Item 𝓤)
  owners [] a vss = []
  owners (R ∷ Rs) a vss = ‵ (R.own_val a.0 vss.0) ∷ owners Rs a.1 vss.1

  abbrev last_of : {D : Type 0} (e : Exit D) (x : D) → Last e x → List (Item 𝓤) → List (Item 𝓤)
  last_of unchanged x w Γ = Γ
  last_of (leaves L l S s r₀) x w Γ = ‵ (l x w) ∷ Γ

  abbrev last_values : {n : ℕ} (κs : Lfts n) (ss : List (Slot n)) (ks : Kepts ss) (a : Denots (types_at ss κs)) → Fins κs ss ks a → List (Item 𝓤)
  last_values κs [] ks a ws = []
  last_values κs (s ∷ ss) ks a ws = last_of ((s.row κs).exit ks.0) a.0 ws.0 (last_values κs ss ks.1 a.1 ws.1)

module _ {M : Type 1} {𝓤 : Ura M} (𝓛 : Logic 𝓤) where
  open 𝓛 use {A}

  abbrev pub asked : (S : Signature) → Bound 𝓛 S → List (Item 𝓤)
  asked S x = owners 𝓤 (types_at S.params x.0) x.3 x.4 ++ tokens 𝓤 S.lifetimes x.0 x.1

  abbrev pub returned : (T : Ended) (x : Bound 𝓛 T.signature) → Val → Res T.signature x.0 → Lasts T x.0 x.3 → List (Item 𝓤)
  returned T x v r ws = tokens 𝓤 T.signature.lifetimes x.0 x.1 ++ (‵ ((type_at T.signature.result x.0).own_val r (v ∷ [])) ∷ last_values 𝓤 x.0 T.signature.params T.kept x.3 ws)

  module _ where
    pub tokens_in : (n : ℕ) (κs : Lfts n) (qs : Shares n) → ent 𝓤 (⋆ 𝓛 (tokens 𝓤 n κs qs)) (toks 𝓛 n κs qs)
    tokens_in zero κs qs = id⊢ 𝓤 (emp 𝓤)
    tokens_in (suc n) κs qs = via 𝓤 _ (pop 𝓛 (‵ (flft κs.0 qs.0)) (tokens 𝓤 n κs.1 qs.1)) (mono_r 𝓤 (A.lft κs.0 qs.0) (tokens_in n κs.1 qs.1))

    tokens_out : (n : ℕ) (κs : Lfts n) (qs : Shares n) → ent 𝓤 (toks 𝓛 n κs qs) (⋆ 𝓛 (tokens 𝓤 n κs qs))
    tokens_out zero κs qs = id⊢ 𝓤 (emp 𝓤)
    tokens_out (suc n) κs qs = via 𝓤 _ (mono_r 𝓤 (A.lft κs.0 qs.0) (tokens_out n κs.1 qs.1)) (push 𝓛 (‵ (flft κs.0 qs.0)) (tokens 𝓤 n κs.1 qs.1))

    owners_in : (Rs : List RattleType) (a : Denots Rs) (vss : Valss Rs) → ent 𝓤 (⋆ 𝓛 (owners 𝓤 Rs a vss)) (sem 𝓛 (owns Rs a vss))
    owners_in [] a vss = id⊢ 𝓤 (emp 𝓤)
    owners_in (R ∷ Rs) a vss = via 𝓤 _ (pop 𝓛 (‵ (R.own_val a.0 vss.0)) (owners 𝓤 Rs a.1 vss.1)) (mono_r 𝓤 (sem 𝓛 (R.own_val a.0 vss.0)) (owners_in Rs a.1 vss.1))

    owners_out : (Rs : List RattleType) (a : Denots Rs) (vss : Valss Rs) → ent 𝓤 (sem 𝓛 (owns Rs a vss)) (⋆ 𝓛 (owners 𝓤 Rs a vss))
    owners_out [] a vss = id⊢ 𝓤 (emp 𝓤)
    owners_out (R ∷ Rs) a vss = via 𝓤 _ (mono_r 𝓤 (sem 𝓛 (R.own_val a.0 vss.0)) (owners_out Rs a.1 vss.1)) (push 𝓛 (‵ (R.own_val a.0 vss.0)) (owners 𝓤 Rs a.1 vss.1))

    last_out : {D : Type 0} (e : Exit D) (x : D) (w : Last e x) (Γ : List (Item 𝓤)) → ent 𝓤 (sep 𝓤 (sem 𝓛 (left e x w)) (⋆ 𝓛 Γ)) (⋆ 𝓛 (last_of 𝓤 e x w Γ))
    last_out unchanged x w Γ = snd∗ 𝓤 (emp 𝓤) (⋆ 𝓛 Γ)
    last_out (leaves L l S s r₀) x w Γ = push 𝓛 (‵ (l x w)) Γ

    lasts_out : {n : ℕ} (κs : Lfts n) (ss : List (Slot n)) (ks : Kepts ss) (a : Denots (types_at ss κs)) (ws : Fins κs ss ks a) → ent 𝓤 (sem 𝓛 (lasts_of κs ss ks a ws)) (⋆ 𝓛 (last_values 𝓤 κs ss ks a ws))
    lasts_out κs [] ks a ws = id⊢ 𝓤 (emp 𝓤)
    lasts_out κs (s ∷ ss) ks a ws = via 𝓤 _ (mono_r 𝓤 (sem 𝓛 (left ((s.row κs).exit ks.0) a.0 ws.0)) (lasts_out κs ss ks.1 a.1 ws.1)) (last_out ((s.row κs).exit ks.0) a.0 ws.0 (last_values 𝓤 κs ss ks.1 a.1 ws.1))

    asked_in : (S : Signature) (x : Bound 𝓛 S) → ent 𝓤 (⋆ 𝓛 (asked S x)) (on_entry 𝓛 S x.0 x.1 x.3 x.4)
    asked_in S x =
        let Rs : List RattleType = types_at S.params x.0 in
        via 𝓤 _ (⊢++ 𝓛 (owners 𝓤 Rs x.3 x.4) (tokens 𝓤 S.lifetimes x.0 x.1)) (via 𝓤 _ (comm∗ 𝓤 (⋆ 𝓛 (owners 𝓤 Rs x.3 x.4)) (⋆ 𝓛 (tokens 𝓤 S.lifetimes x.0 x.1))) (mono∗ 𝓤 (tokens_in S.lifetimes x.0 x.1) (owners_in Rs x.3 x.4)))

    pub asked_out : (S : Signature) (x : Bound 𝓛 S) → ent 𝓤 (on_entry 𝓛 S x.0 x.1 x.3 x.4) (⋆ 𝓛 (asked S x))
    asked_out S x =
        let Rs : List RattleType = types_at S.params x.0 in
        via 𝓤 _ (mono∗ 𝓤 (tokens_out S.lifetimes x.0 x.1) (owners_out Rs x.3 x.4)) (via 𝓤 _ (comm∗ 𝓤 (⋆ 𝓛 (tokens 𝓤 S.lifetimes x.0 x.1)) (⋆ 𝓛 (owners 𝓤 Rs x.3 x.4))) (++⊢ 𝓛 (owners 𝓤 Rs x.3 x.4) (tokens 𝓤 S.lifetimes x.0 x.1)))

    returned_out : (T : Ended) (x : Bound 𝓛 T.signature) (v : Val) (r : Res T.signature x.0) (ws : Lasts T x.0 x.3)
        → ent 𝓤 (sep 𝓤 (sep 𝓤 (alive 𝓛 T.signature x.0 x.1) (sem 𝓛 ((type_at T.signature.result x.0).own_val r (v ∷ [])))) (sem 𝓛 (lasts T x.0 x.3 ws))) (⋆ 𝓛 (returned T x v r ws))
    returned_out T x v r ws =
        let Δ : List (Item 𝓤) = last_values 𝓤 x.0 T.signature.params T.kept x.3 ws in
        qed 𝓛 ((raw (alive 𝓛 T.signature x.0 x.1) ⊛ ‵ ((type_at T.signature.result x.0).own_val r (v ∷ []))) ∷ ‵ (lasts T x.0 x.3 ws) ∷ []) ∵ split ! $ move ! (2 ∷ []) $
        use1 𝓛 (raw (⋆ 𝓛 Δ)) (lasts_out x.0 T.signature.params T.kept x.3 ws) $ move ! (2 ∷ 0 ∷ []) $
        use2 𝓛 (raw (⋆ 𝓛 (‵ ((type_at T.signature.result x.0).own_val r (v ∷ [])) ∷ Δ))) (push 𝓛 (‵ ((type_at T.signature.result x.0).own_val r (v ∷ []))) Δ) $ move ! (1 ∷ []) $
        use1 𝓛 (raw (⋆ 𝓛 (tokens 𝓤 T.signature.lifetimes x.0 x.1))) (tokens_out T.signature.lifetimes x.0 x.1) $
        by ! (++⊢ 𝓛 (tokens 𝓤 T.signature.lifetimes x.0 x.1) (‵ ((type_at T.signature.result x.0).own_val r (v ∷ [])) ∷ Δ))

-- what is read and stored beside Δ
module _ {M : Type 1} {𝓤 : Ura M} {𝓛 : Logic 𝓤} {K : Type 0} (Δ : List (Item 𝓤)) {Γ : List (Item 𝓤)} where
  open 𝓛 use {H}

  pub opds_beside : {E : Env 𝓤 H} {xs : List Operand} {vs : List Val} → Opds K 𝓛 Γ E xs vs → Opds K 𝓛 (Δ ++ Γ) E xs vs
  opds_beside {E} {xs} {vs} os = record {
    go = λ Kt h. via 𝓤 _ (⊢++ 𝓛 Δ Γ) (via 𝓤 _ (comm∗ 𝓤 (⋆ 𝓛 Δ) (⋆ 𝓛 Γ)) (via 𝓤 (sep 𝓤 (eval_opds 𝓤 H E xs (λ us. wand 𝓤 (⋆ 𝓛 Δ) (Kt us))) (⋆ 𝓛 Δ))
        (mono_l 𝓤 (⋆ 𝓛 Δ) (os.go (λ us. wand 𝓤 (⋆ 𝓛 Δ) (Kt us)) (wand_i 𝓤 (⋆ 𝓛 Γ) (⋆ 𝓛 Δ) (Kt vs) (via 𝓤 _ (comm∗ 𝓤 (⋆ 𝓛 Γ) (⋆ 𝓛 Δ)) (via 𝓤 _ (++⊢ 𝓛 Δ Γ) h)))))
        (eval_opds_fm 𝓤 H 𝓛.laws E xs (λ us. wand 𝓤 (⋆ 𝓛 Δ) (Kt us)) Kt (⋆ 𝓛 Δ) (λ us. via 𝓤 _ (comm∗ 𝓤 (wand 𝓤 (⋆ 𝓛 Δ) (Kt us)) (⋆ 𝓛 Δ)) (apply∗ 𝓤 (⋆ 𝓛 Δ) (Kt us))))));
  }

  pub finds_beside : {E : Env 𝓤 H} {p : Place} {sp : Spot 𝓤 H} → Finds K 𝓛 Γ E p sp → Finds K 𝓛 (Δ ++ Γ) E p sp
  finds_beside {E} {p} {sp} f = record {
    go = λ Kt h. via 𝓤 _ (⊢++ 𝓛 Δ Γ) (via 𝓤 _ (comm∗ 𝓤 (⋆ 𝓛 Δ) (⋆ 𝓛 Γ)) (via 𝓤 (sep 𝓤 (resolve 𝓤 H E p (λ sp'. wand 𝓤 (⋆ 𝓛 Δ) (Kt sp'))) (⋆ 𝓛 Δ))
        (mono_l 𝓤 (⋆ 𝓛 Δ) (f.go (λ sp'. wand 𝓤 (⋆ 𝓛 Δ) (Kt sp')) (wand_i 𝓤 (⋆ 𝓛 Γ) (⋆ 𝓛 Δ) (Kt sp) (via 𝓤 _ (comm∗ 𝓤 (⋆ 𝓛 Γ) (⋆ 𝓛 Δ)) (via 𝓤 _ (++⊢ 𝓛 Δ Γ) h)))))
        (resolve_fm 𝓤 H 𝓛.laws E p (λ sp'. wand 𝓤 (⋆ 𝓛 Δ) (Kt sp')) Kt (⋆ 𝓛 Δ) (λ sp'. via 𝓤 _ (comm∗ 𝓤 (wand 𝓤 (⋆ 𝓛 Δ) (Kt sp')) (⋆ 𝓛 Δ)) (apply∗ 𝓤 (⋆ 𝓛 Δ) (Kt sp'))))));
  }

  pub writes_beside : {τ : Ty} {b o : ℕ} {v : Val} {Γ' : List (Item 𝓤)} → Writes K 𝓛 Γ τ b o v Γ' → Writes K 𝓛 (Δ ++ Γ) τ b o v (Δ ++ Γ')
  writes_beside {τ} {b} {o} {v} {Γ'} w = record {
    go = λ P h. via 𝓤 _ (⊢++ 𝓛 Δ Γ) (via 𝓤 _ (comm∗ 𝓤 (⋆ 𝓛 Δ) (⋆ 𝓛 Γ)) (via 𝓤 (sep 𝓤 (write 𝓤 H τ b o v (⋆ 𝓛 Γ')) (⋆ 𝓛 Δ)) (mono_l 𝓤 (⋆ 𝓛 Δ) (w.go (⋆ 𝓛 Γ') (id⊢ 𝓤 (⋆ 𝓛 Γ'))))
        (write_fm 𝓤 H 𝓛.laws τ b o v (⋆ 𝓛 Γ') P (⋆ 𝓛 Δ) (via 𝓤 _ (comm∗ 𝓤 (⋆ 𝓛 Γ') (⋆ 𝓛 Δ)) (via 𝓤 _ (++⊢ 𝓛 Δ Γ') h)))));
  }

-- ---- the locals of a call, local k at k
-- a result of the types τs can be stored at d, which turns the context into Γ'
pub record Stores {M : Type 1} {𝓤 : Ura M} (K : Type 0) (𝓛 : Logic 𝓤) (Γ : List (Item 𝓤)) (E : Env 𝓤 𝓛.H) (d : Place) (τs : List Ty) (Γ' : Val → List (Item 𝓤)) : Type 2 where
  pub spot : Spot 𝓤 𝓛.H
  pub finds : Finds K 𝓛 Γ E d spot
  pub writes : (v : Val) → Typed τs (v ∷ []) → Writes K 𝓛 Γ spot.0 spot.1 spot.2 v (Γ' v)

module _ {M : Type 1} {𝓤 : Ura M} {𝓛 : Logic 𝓤} {K : Type 0} {Γ : List (Item 𝓤)} {E : Env 𝓤 𝓛.H} {k : ℕ} where
  open 𝓛 use {H}

  pub local : K → {v : Val} → nth 𝓛 k Γ ≡ ‵ (fat full_share (spot_of 𝓤 H E k).0 (spot_of 𝓤 H E k).1 0 v) → Opd K 𝓛 Γ E (copy (place k [])) v
  local t e = load t (from t (stop t)) (look t k e)

  pub into : K → nth 𝓛 k Γ ≡ ‵ (froom (spot_of 𝓤 H E k).0 (spot_of 𝓤 H E k).1 0) → Stores K 𝓛 Γ E (place k []) ((spot_of 𝓤 H E k).0 ∷ []) (λ v. put 𝓛 k (‵ (fat full_share (spot_of 𝓤 H E k).0 (spot_of 𝓤 H E k).1 0 v)) Γ)
  into t e = record { spot = spot_of 𝓤 H E k; finds = from t (stop t); writes = λ v ty. init t k e ty.0 }

  pub over : K → {u : Val} → nth 𝓛 k Γ ≡ ‵ (fat full_share (spot_of 𝓤 H E k).0 (spot_of 𝓤 H E k).1 0 u) → Stores K 𝓛 Γ E (place k []) ((spot_of 𝓤 H E k).0 ∷ []) (λ v. put 𝓛 k (‵ (fat full_share (spot_of 𝓤 H E k).0 (spot_of 𝓤 H E k).1 0 v)) Γ)
  over t e = record { spot = spot_of 𝓤 H E k; finds = from t (stop t); writes = λ v ty. store t k e ty.0 }

module _ {M : Type 1} {𝓤 : Ura M} (𝓛 : Logic 𝓤) (T : Ended) (c : Clauses 𝓤 T) (y : (x : Bound 𝓛 T.signature) × (c x.0 x.3).ghost) where
  open 𝓛 use {H}

  abbrev S : Signature
  S = T.signature

  abbrev R : RattleType
  R = type_at S.result y.0.0

  abbrev Known : Contract 𝓤
  Known = triple_of 𝓛 S (closing 𝓛 T c)

  abbrev Ensured : Res S y.0.0 → Lasts T y.0.0 y.0.3 → SProp 𝓤
  Ensured r ws = (c y.0.0 y.0.3).ensures y.1 r (at_exit T y.0.0 y.0.3 ws)

  asks : ent 𝓤 (emp 𝓤) ((c y.0.0 y.0.3).requires y.1) → ent 𝓤 (⋆ 𝓛 (asked 𝓛 S y.0)) (Known.pre y)
  asks req = via 𝓤 _ (emp∗ 𝓤 (⋆ 𝓛 (asked 𝓛 S y.0))) (via 𝓤 _ (mono∗ 𝓤 req (asked_in 𝓛 S y.0)) (comm∗ 𝓤 ((c y.0.0 y.0.3).requires y.1) (on_entry 𝓛 S y.0.0 y.0.1 y.0.3 y.0.4)))

  module _ {K : Type 0} {Γ : List (Item 𝓤)} {G : Goal 𝓤 H} where
    condensed : ent 𝓤 (emp 𝓤) ((c y.0.0 y.0.3).requires y.1) → Step K 𝓛 (raw (Known.pre y) ∷ Γ) G (asked 𝓛 S y.0 ++ Γ) G
    condensed req = step (λ s. record { prf = via 𝓤 _ (⊢++ 𝓛 (asked 𝓛 S y.0) Γ) (via 𝓤 _ (mono_l 𝓤 (⋆ 𝓛 Γ) (asks req)) (via 𝓤 _ (push 𝓛 (raw (Known.pre y)) Γ) s.prf)) })

    spread : (i : Item 𝓤) (Δ : List (Item 𝓤)) → Step K 𝓛 (i ∷ (Δ ++ Γ)) G (i ∷ raw (⋆ 𝓛 Δ) ∷ Γ) G
    spread i Δ = step (λ s. record { prf = via 𝓤 _ (pop 𝓛 i (raw (⋆ 𝓛 Δ) ∷ Γ)) (via 𝓤 _ (mono_r 𝓤 (mean 𝓛 i) (via 𝓤 _ (pop 𝓛 (raw (⋆ 𝓛 Δ)) Γ) (++⊢ 𝓛 Δ Γ))) (via 𝓤 _ (push 𝓛 i (Δ ++ Γ)) s.prf)) })

    gives : K → Soaks G → Lawful 𝓛 R → (v : Val) → ((r : Res S y.0.0) (ws : Lasts T y.0.0 y.0.3) → Typed R.mir (v ∷ []) → Seq K 𝓛 (raw (Ensured r ws) ∷ (returned 𝓛 T y.0 v r ws ++ Γ)) G) → Seq K 𝓛 (raw (Known.post y v) ∷ Γ) G
    gives t soaks law v k =
        use1 𝓛 (later (some (λ (r : Res S y.0.0). (raw (alive 𝓛 S y.0.0 y.0.1) ⊛ ‵ (R.own_val r (v ∷ []))) ⊛ some (λ (ws : Lasts T y.0.0 y.0.3). ‵ (lasts T y.0.0 y.0.3 ws) ⊛ raw (Ensured r ws))))) (id⊢ 𝓤 _) $ await t soaks $
        pick t (λ r. split t $ move t (1 ∷ []) $ pick t (λ ws. split t $ move t (2 ∷ []) $ split t $ move t (1 ∷ []) $ peeks t R (Is R) (shows 𝓛 R) r (v ∷ []) (λ is. move t (1 ∷ 0 ∷ []) $ join t $ move t (0 ∷ 1 ∷ []) $
        use2 𝓛 (raw (⋆ 𝓛 (returned 𝓛 T y.0 v r ws))) (returned_out 𝓛 T y.0 v r ws) $ move t (1 ∷ 0 ∷ []) $ spread (raw (Ensured r ws)) (returned 𝓛 T y.0 v r ws) $ k r ws (law.typed r (v ∷ []) is))))

  -- `!` comes once the contract and what the caller has chosen are known, since the context is read off them
  module _ (𝓣 : Tables 𝓤 H) {K : Type 0} {Γ : List (Item 𝓤)} where
    pub calls_into : K → {E : Env 𝓤 H} {q : Post 𝓤 H} {f : Callee} {xs : List Operand} {d : Place} {rest : Body} → Triple 𝓤 (𝓣.C f) Known → ent 𝓤 (emp 𝓤) ((c y.0.0 y.0.3).requires y.1) → Lawful 𝓛 R
        → Opds K 𝓛 Γ E xs (passed 𝓛 S y.0) → {Γ' : Val → List (Item 𝓤)} → Stores K 𝓛 Γ E d R.mir Γ'
        → ((v : Val) (r : Res S y.0.0) (ws : Lasts T y.0.0 y.0.3) → Seq K 𝓛 (raw (Ensured r ws) ∷ (returned 𝓛 T y.0 v r ws ++ Γ' v)) (runs 𝓣.C 𝓣.Λ E rest q))
        → Seq K 𝓛 (asked 𝓛 S y.0 ++ Γ) (runs 𝓣.C 𝓣.Λ E (seq (call f xs d) rest) q)
    calls_into t known req law os st k =
        condensed req $ calls_at t (fm_of 𝓤 H 𝓛.laws 𝓣) Known known y (opds_beside (raw (Known.pre y) ∷ []) os) (λ v. gives t tt law v (λ r ws ty.
        land t (finds_beside (raw (Ensured r ws) ∷ returned 𝓛 T y.0 v r ws) st.finds) (writes_beside (raw (Ensured r ws) ∷ returned 𝓛 T y.0 v r ws) (st.writes v ty)) $ k v r ws))
