-- The walk of a whole function, from its entry to its return.
--     Param s k        what a walk has to know of a parameter of the slot s: what is had of it at exit, that this says the last value, and how its machine value is spelled
--     shared, given, value, number     a `&[T]`, of which nothing is had at exit; a `&mut [T]` that is given to a callee for good; plain data, by its type's laws; and a number
--     Walk             the function's body runs, with all that there is on entry: local k at k, the right to free the locals, what the arguments own, the tokens, and what is required
--     ends             the end of a walk: what the result owns, what is had of each parameter, and the tokens
--     Known            a callee meets its contract.        by_walk     so does the function, by its walk
-- Assumes `Logic`.
use mathlib.Core.Path.{◌≡◌, refl}
use Prim.Native.Nat.{ℕ}
use mathlib.Core.List.{List, [], ◌∷◌, ◌++◌}
use seplogic.Ra.Ura.{Ura}
use mir.Syntax.{Callee, Fn, Width}
use mir.Val.{Val}
use base.Logic.{SProp, ent, sep, emp, id⊢, via, mono_l, mono_r}
use base.Fml.{ftrue}
use prog.Wp.{WpFn, Tables}
use types.Logic.{Logic, sem}
use contract.Lifetimes.{Lfts, Shares, AllOutlive}
use types.Kit.{Item, Seq, Sq, Go, ‵, raw, ⋆, ++⊢, ⊢++, pop, prop, runs, at_ret, ◌$◌, ◌∵◌, !, qed, move, use0, use1, join, suffices, done}
use sound.WpLaws.{WpFn-mono}
use denote.RattleType.{RattleType, Denots, Valss, flat, mirs}
use denote.Laws.{Is, Ises, Are, Typed, Spells, Tells, Tellss, Lawful, Lawfuls, valss, all_Typed}
use denote.Plain.{UInt, uint_vals, uint_Tells, uint_Lawful}
use denote.Slice.{mut_slice_vals, shr_slice_vals, shr_slice_Lawful, mut_slice_Lawful}
use denote.Exit.{Kept, yes, Last, left}
use denote.Signature.{Slot, AllWithin, plain, mut_slice_of, shr_slice_of, name_of, meet_at, type_at, types_at}
use denote.Triple.Statement.{Triple}
use denote.Triple.Entry.{Args, Res, alive}
use denote.Triple.Bound.{Bound, passed}
use denote.Triple.Spec.{triple_of}
use denote.Triple.End.{Kepts, Fins}
use denote.Triple.Clauses.{Ended, Clauses, Lasts, at_exit, closing}
use denote.Triple.Walked.{Stay, Stays, stay_dropped, gave_slice, Goes, AllGo, Goes-dropped, Goes-gave_slice, has_of, Fit, walk_of, ends_at, walked, walk_Meets}
use Rattle.walks.proofs.Frame.{placed, dying, opened, Arguments, enters}
use Rattle.walks.proofs.Call.{tokens, asked, tokens_in, asked_out}

-- ---- the parameters
pub record Param {n : ℕ} (s : Slot n) (k : Kept) : Type 2 where
  pub stay : Stay s k
  pub goes : {M : Type 1} {𝓤 : Ura M} (𝓛 : Logic 𝓤) → Goes 𝓛 n s k stay
  pub spell : (κs : Lfts n) → (s.row κs).Denot → List Val
  pub tells : (κs : Lfts n) → Tells (s.row κs) (Is (s.row κs)) (spell κs)
  pub lawful : {M : Type 1} {𝓤 : Ura M} (𝓛 : Logic 𝓤) (κs : Lfts n) → Lawful 𝓛 (s.row κs)

module _ {n : ℕ} where
  abbrev pub shared : (j : ℕ) (ok : AllWithin n (j ∷ [])) (R : RattleType) → Param {n = n} (shr_slice_of (j ∷ []) ok (plain (λ _. R))) yes
  shared j ok R = record {
    stay = stay_dropped (shr_slice_of (j ∷ []) ok (plain (λ _. R))) yes;
    goes = λ 𝓛. Goes-dropped 𝓛 n (shr_slice_of (j ∷ []) ok (plain (λ _. R))) yes (λ κs x f. refl);
    spell = λ κs. shr_slice_vals;
    tells = λ κs x vs p. p.0.0;
    lawful = λ 𝓛 κs. shr_slice_Lawful 𝓛 (name_of (j ∷ [])) (meet_at n (j ∷ []) ok κs) R;
  }

  abbrev pub given : (j : ℕ) (ok : AllWithin n (j ∷ [])) (R : RattleType) → Param {n = n} (mut_slice_of (j ∷ []) ok (plain (λ _. R))) yes
  given j ok R = record {
    stay = gave_slice (j ∷ []) ok (plain (λ _. R));
    goes = λ 𝓛. Goes-gave_slice 𝓛 n j ok (plain (λ _. R));
    spell = λ κs. mut_slice_vals;
    tells = λ κs x vs p. p.0.0;
    lawful = λ 𝓛 κs. mut_slice_Lawful 𝓛 (name_of (j ∷ [])) (meet_at n (j ∷ []) ok κs) R;
  }

  -- The last premise is a `refl` at any type that is written out.
  abbrev pub value : (R : RattleType) (vals : R.Denot → List Val) → Tells R (Is R) vals → ((M : Type 1) (𝓤 : Ura M) (𝓛 : Logic 𝓤) → Lawful 𝓛 R) → ((x : R.Denot) (w : Last (R.exit yes) x) → left (R.exit yes) x w ≡ ftrue) → Param {n = n} (plain (λ _. R)) yes
  value R vals tl law silent = record {
    stay = stay_dropped (plain (λ _. R)) yes;
    goes = λ 𝓛. Goes-dropped 𝓛 n (plain (λ _. R)) yes (λ κs. silent);
    spell = λ κs. vals;
    tells = λ κs. tl;
    lawful = λ {𝓤 = 𝓤} 𝓛 κs. law _ 𝓤 𝓛;
  }

  abbrev pub number : (w : Width) → Param {n = n} (plain (λ _. UInt w)) yes
  number w = value (UInt w) (uint_vals w) (uint_Tells w) (λ M 𝓤 𝓛. uint_Lawful 𝓛 w) (λ x z. refl)

  abbrev pub Params : (ss : List (Slot n)) → Kepts ss → Type 2
  Params [] ks = Unit {2}
  Params (s ∷ ss) ks = Param s ks.0 × Params ss ks.1

  abbrev pub stays : (ss : List (Slot n)) (ks : Kepts ss) → Params ss ks → Stays ss ks
  stays [] ks ps = tt
  stays (s ∷ ss) ks ps = (ps.0.stay, stays ss ks.1 ps.1)

  abbrev spells : (ss : List (Slot n)) (ks : Kepts ss) → Params ss ks → (κs : Lfts n) → Spells (types_at ss κs)
  spells [] ks ps κs = tt
  spells (s ∷ ss) ks ps κs = (ps.0.spell κs, spells ss ks.1 ps.1 κs)

  all_told : (ss : List (Slot n)) (ks : Kepts ss) (ps : Params ss ks) (κs : Lfts n) → Tellss (types_at ss κs) (Ises (types_at ss κs)) (spells ss ks ps κs)
  all_told [] ks ps κs = tt
  all_told (s ∷ ss) ks ps κs = (ps.0.tells κs, all_told ss ks.1 ps.1 κs)

  module _ {M : Type 1} {𝓤 : Ura M} (𝓛 : Logic 𝓤) where
    all_go : (ss : List (Slot n)) (ks : Kepts ss) (ps : Params ss ks) → AllGo 𝓛 n ss ks (stays ss ks ps)
    all_go [] ks ps = tt
    all_go (s ∷ ss) ks ps = (ps.0.goes 𝓛, all_go ss ks.1 ps.1)

    all_lawful : (ss : List (Slot n)) (ks : Kepts ss) → Params ss ks → (κs : Lfts n) → Lawfuls 𝓛 (types_at ss κs)
    all_lawful [] ks ps κs = tt
    all_lawful (s ∷ ss) ks ps κs = (ps.0.lawful 𝓛 κs, all_lawful ss ks.1 ps.1 κs)

-- ---- what is had at exit
module _ {M : Type 1} (𝓤 : Ura M) where
  abbrev had : {n : ℕ} (κs : Lfts n) (ss : List (Slot n)) (ks : Kepts ss) → Stays ss ks → (a : Denots (types_at ss κs)) → Fins κs ss ks a → Valss (types_at ss κs) → List (Item 𝓤)
  had κs [] ks hs a ws vss = []
  had κs (s ∷ ss) ks hs a ws vss = ‵ (hs.0.has κs a.0 ws.0 vss.0) ∷ had κs ss ks.1 hs.1 a.1 ws.1 vss.1

had_in : {M : Type 1} {𝓤 : Ura M} (𝓛 : Logic 𝓤) {n : ℕ} (κs : Lfts n) (ss : List (Slot n)) (ks : Kepts ss) (hs : Stays ss ks) (a : Denots (types_at ss κs)) (ws : Fins κs ss ks a) (vss : Valss (types_at ss κs))
    → ent 𝓤 (⋆ 𝓛 (had 𝓤 κs ss ks hs a ws vss)) (sem 𝓛 (has_of κs ss ks hs a ws vss))
had_in {𝓤 = 𝓤} 𝓛 κs [] ks hs a ws vss = id⊢ 𝓤 (emp 𝓤)
had_in {𝓤 = 𝓤} 𝓛 κs (s ∷ ss) ks hs a ws vss =
    via 𝓤 _ (pop 𝓛 (‵ (hs.0.has κs a.0 ws.0 vss.0)) (had 𝓤 κs ss ks.1 hs.1 a.1 ws.1 vss.1)) (mono_r 𝓤 (sem 𝓛 (hs.0.has κs a.0 ws.0 vss.0)) (had_in 𝓛 κs ss ks.1 hs.1 a.1 ws.1 vss.1))

module _ {M : Type 1} {𝓤 : Ura M} (𝓛 : Logic 𝓤) (T : Ended) (ps : Params T.signature.params T.kept) (c : Clauses 𝓤 T) (y : (x : Bound 𝓛 T.signature) × (c x.0 x.3).ghost)
    (r : Res T.signature y.0.0) (ws : Lasts T y.0.0 y.0.3) where
  abbrev hs : Stays T.signature.params T.kept
  hs = stays T.signature.params T.kept ps

  abbrev Had : List (Item 𝓤)
  Had = had 𝓤 y.0.0 T.signature.params T.kept hs y.0.3 ws y.0.4

  abbrev Tokens : List (Item 𝓤)
  Tokens = tokens 𝓤 T.signature.lifetimes y.0.0 y.0.1

  ended : (v : Val) → Fit T hs y.0.0 y.0.3 ws → ent 𝓤 (emp 𝓤) ((c y.0.0 y.0.3).ensures y.1 r (at_exit T y.0.0 y.0.3 ws))
      → ent 𝓤 (sep 𝓤 (sem 𝓛 ((type_at T.signature.result y.0.0).own_val r (v ∷ []))) (sep 𝓤 (⋆ 𝓛 Had) (⋆ 𝓛 Tokens))) ((walk_of 𝓛 T hs c).post y v)
  ended v fits ens =
      qed 𝓛 (‵ ((type_at T.signature.result y.0.0).own_val r (v ∷ [])) ∷ raw (⋆ 𝓛 Had) ∷ raw (⋆ 𝓛 Tokens) ∷ []) ∵ suffices ! _ (ends_at 𝓛 T hs c y v r ws fits) $
      use0 𝓛 (raw ((c y.0.0 y.0.3).ensures y.1 r (at_exit T y.0.0 y.0.3 ws))) ens $ move ! (2 ∷ []) $
      use1 𝓛 (‵ (has_of y.0.0 T.signature.params T.kept hs y.0.3 ws y.0.4)) (had_in 𝓛 y.0.0 T.signature.params T.kept hs y.0.3 ws y.0.4) $
      move ! (0 ∷ 2 ∷ []) $ join ! $ move ! (2 ∷ []) $ use1 𝓛 (raw (alive 𝓛 T.signature y.0.0 y.0.1)) (tokens_in 𝓛 T.signature.lifetimes y.0.0 y.0.1) $ move ! (0 ∷ 1 ∷ []) $ join ! $ done !

  pub ends : {K : Type 0} → K → {v : Val} → Fit T hs y.0.0 y.0.3 ws → ent 𝓤 (emp 𝓤) ((c y.0.0 y.0.3).ensures y.1 r (at_exit T y.0.0 y.0.3 ws))
      → Seq K 𝓛 (‵ ((type_at T.signature.result y.0.0).own_val r (v ∷ [])) ∷ (Had ++ Tokens)) (prop ((walk_of 𝓛 T hs c).post y v))
  ends t {v} fits ens = record {
    prf = via 𝓤 _ (pop 𝓛 (‵ ((type_at T.signature.result y.0.0).own_val r (v ∷ []))) (Had ++ Tokens)) (via 𝓤 _ (mono_r 𝓤 (sem 𝓛 ((type_at T.signature.result y.0.0).own_val r (v ∷ []))) (⊢++ 𝓛 Had Tokens)) (ended v fits ens));
  }

abbrev pub Known : {M : Type 1} {𝓤 : Ura M} (𝓛 : Logic 𝓤) → Tables 𝓤 𝓛.H → Callee → (T : Ended) → Clauses 𝓤 T → Type 1
Known {𝓤 = 𝓤} 𝓛 𝓣 f T c = Triple 𝓤 (𝓣.C f) (triple_of 𝓛 T.signature (closing 𝓛 T c))

module _ {M : Type 1} {𝓤 : Ura M} (𝓛 : Logic 𝓤) (T : Ended) (ps : Params T.signature.params T.kept) (c : Clauses 𝓤 T) (f : Fn) (𝓣 : Tables 𝓤 𝓛.H) where
  open 𝓛 use {H}

  abbrev Post : (y : (x : Bound 𝓛 T.signature) × (c x.0 x.3).ghost) → Val → SProp 𝓤
  Post = (walk_of 𝓛 T (stays T.signature.params T.kept ps) c).post

  abbrev pub Walk : (y : (x : Bound 𝓛 T.signature) × (c x.0 x.3).ghost) → (ℕ → ℕ) → Type 1
  Walk y l = Sq 𝓛 (opened 𝓤 (placed f.locals l) (passed 𝓛 T.signature y.0) ++ (‵ (dying (placed f.locals l)) ∷ (asked 𝓛 T.signature y.0 ++ (raw ((c y.0.0 y.0.3).requires y.1) ∷ []))))
      (runs 𝓣.C 𝓣.Λ (placed f.locals l) f.body (at_ret (placed f.locals l) (Post y)))

  begins : (y : (x : Bound 𝓛 T.signature) × (c x.0 x.3).ghost) → ((l : ℕ → ℕ) → Arguments (placed f.locals l) (passed 𝓛 T.signature y.0)) → ((l : ℕ → ℕ) → Walk y l)
      → ent 𝓤 ((walk_of 𝓛 T (stays T.signature.params T.kept ps) c).pre y) (WpFn 𝓤 H 𝓣.C 𝓣.Λ f (passed 𝓛 T.signature y.0) (Post y))
  begins y fits k =
      via 𝓤 _ (mono_l 𝓤 ((c y.0.0 y.0.3).requires y.1) (asked_out 𝓛 T.signature y.0))
      (via 𝓤 _ (++⊢ 𝓛 (asked 𝓛 T.signature y.0) (raw ((c y.0.0 y.0.3).requires y.1) ∷ []))
      (enters {𝓛 = 𝓛} {K = Go {0}} {Γ = asked 𝓛 T.signature y.0 ++ (raw ((c y.0.0 y.0.3).requires y.1) ∷ [])} ! 𝓣.C 𝓣.Λ f (passed 𝓛 T.signature y.0) (Post y) fits k).prf)

  -- the arguments, as they are spelled
  abbrev arguments : (κs : Lfts T.signature.lifetimes) → Args T.signature κs → Valss (types_at T.signature.params κs)
  arguments κs a = valss (types_at T.signature.params κs) (spells T.signature.params T.kept ps κs) a

  -- the first premise is the identity: what the types of the parameters say of the arguments is what the types of the locals ask
  pub by_walk : ((κs : Lfts T.signature.lifetimes) (a : Args T.signature κs) (l : ℕ → ℕ) → Typed (mirs (types_at T.signature.params κs)) (flat (types_at T.signature.params κs) (arguments κs a)) → Arguments (placed f.locals l) (flat (types_at T.signature.params κs) (arguments κs a)))
      → ((κs : Lfts T.signature.lifetimes) (qs : Shares T.signature.lifetimes) (bounds : AllOutlive T.signature.lifetimes T.signature.outlives κs) (a : Args T.signature κs) (g : (c κs a).ghost)
      → Are (types_at T.signature.params κs) (Ises (types_at T.signature.params κs)) a (arguments κs a) → (l : ℕ → ℕ) → Walk ((κs, qs, bounds, a, arguments κs a), g) l)
      → Triple 𝓤 (WpFn 𝓤 H 𝓣.C 𝓣.Λ f) (triple_of 𝓛 T.signature (closing 𝓛 T c))
  by_walk fits k =
      walk_Meets 𝓛 T (stays T.signature.params T.kept ps) (all_go 𝓛 T.signature.params T.kept ps) c (WpFn 𝓤 H 𝓣.C 𝓣.Λ f) (WpFn-mono 𝓤 H 𝓛.laws 𝓣 f)
      (walked 𝓛 T (stays T.signature.params T.kept ps) c (WpFn 𝓤 H 𝓣.C 𝓣.Λ f) (spells T.signature.params T.kept ps) (all_told T.signature.params T.kept ps) (λ κs qs bounds a g are.
      begins ((κs, qs, bounds, a, arguments κs a), g) (λ l. fits κs a l (all_Typed 𝓛 (types_at T.signature.params κs) (all_lawful 𝓛 T.signature.params T.kept ps κs) a (arguments κs a) are)) (k κs qs bounds a g are)))
