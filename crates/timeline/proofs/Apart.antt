-- Two different uses of one unit: the one is over when the other begins.
-- The top's starts are its delay apart. One level down, two invocations of one instance are kept apart
-- by the spacing rule where the uses around them are one use, and by the span rule where they are two.
-- Assumes nothing.
use Rattle.std.specs.Prelude.{ℕ, ◌+◌, ◌≤◌, ◌<◌, ◌≡◌, refl, List, [], ◌∷◌, ◌⊎◌}
use Rattle.std.proofs.Common.{sym, ap, inl, inr, ⊎_elim, add-zero, arith}
use Rattle.std.proofs.Math.Decide.{ℕ_discrete, dec_lt}
use Rattle.timeline.specs.Design.{Design, delay, invocation_count, instance, offset, takes}
use Rattle.timeline.specs.Rules.{Clear, Rules}
use Rattle.timeline.specs.Uses.{Spaced, reach, PathOf, unit, after, lasts}
use Rattle.timeline.proofs.Takes.{takes_some, takes_built}
use Rattle.timeline.proofs.Down.{Placed, Started, path_built, invocations_down, use_ranges, use_rules, same_component}

pub nil≢cons : {n : ℕ} {p : List ℕ} → [] ≡ n ∷ p → ⊥
nil≢cons e = let z : ◌≡◌ {A = ℕ} 0 1 = cc in omega arith

-- What begins k and k' after uses that are clear of each other is so too, where it ends within d of the other's begin.
clear_inside : (d t t' a a' k e k' e' : ℕ) → Clear (t + a) d (t' + a') d → k + e ≤ k' + d → k' + e' ≤ k + d → Clear (t + (a + k)) e (t' + (a' + k')) e'
clear_inside d t t' a a' k e k' e' (inl h) u v = inl (omega arith)
clear_inside d t t' a a' k e k' e' (inr h) u v = inr (omega arith)

clear_shifted : (t t' a a' k d k' d' : ℕ) → t ≡ t' → a ≡ a' → Clear k d k' d' → Clear (t + (a + k)) d (t' + (a' + k')) d'
clear_shifted t t' a a' k d k' d' e f (inl h) = inl (omega arith)
clear_shifted t t' a a' k d k' d' e f (inr h) = inr (omega arith)

clear_later : (x d y e : ℕ) → x ≤ y → 1 ≤ e → Clear x d y e → x + d ≤ y
clear_later x d y e l m (inl h) = h
clear_later x d y e l m (inr h) = absurd (omega arith)

-- One start, or two that are d apart.
starts_clear : (d : ℕ) (S : ℕ → Type 0) → Spaced d S → (t t' : ℕ) → S t → S t' → (t ≡ t') ⊎ Clear t d t' d
starts_clear d S h t t' s s' = go (dec_lt t t') (dec_lt t' t)
  where
    go : Dec (t < t') → Dec (t' < t) → (t ≡ t') ⊎ Clear t d t' d
    go (yes l) m = inr (inl (omega (arith, h.spaced t t' s s' l)))
    go (no n) (yes l) = inr (inr (omega (arith, h.spaced t' t s' s l)))
    go (no n) (no m) = inl (omega arith)

module _ {D : Design} {top : ℕ} (h : Placed D top) where
  -- A use lasts some time; one with a further invocation in it lasts for its component's delay.
  pub lasts_some : (p : List ℕ) → PathOf D top p → 1 ≤ lasts D top p
  lasts_some [] w = (use_ranges h [] w).delay_some
  lasts_some (j ∷ p) w = takes_some D (reach D top p) j (use_ranges h (j ∷ p) w)

  lasts_delay : (j : ℕ) (p : List ℕ) → PathOf D top (j ∷ p) → lasts D top p ≡ delay D (reach D top p)
  lasts_delay j [] w = refl
  lasts_delay j (i ∷ p) w = takes_built D (reach D top p) i (path_built (invocations_down h) j (i ∷ p) w)

-- Use p of start t, begun in cycle t + a and lasting d, and use q of start t' are one use, or the one is over when the other begins.
abbrev pub Once : (t : ℕ) (p : List ℕ) (a d t' : ℕ) (q : List ℕ) (a' d' : ℕ) → Type 0
Once t p a d t' q a' d' = ((t ≡ t') × (p ≡ q)) ⊎ Clear (t + a) d (t' + a') d'

module _ (D : Design) (top t t' : ℕ) where
  -- One level down, by invocations j and j' of one instance of component c.
  once_inside : (p q : List ℕ) (j j' c : ℕ) → Rules D c → j < invocation_count D c → j' < invocation_count D c → instance D c j ≡ instance D c j'
      → Once t p (after D top p) (delay D c) t' q (after D top q) (delay D c)
      → Once t (j ∷ p) (after D top p + offset D c j) (takes D c j) t' (j' ∷ q) (after D top q + offset D c j') (takes D c j')
  once_inside p q j j' c rules l l' i (inl h) = go (ℕ_discrete j j')
    where
      go : Dec (j ≡ j') → Once t (j ∷ p) (after D top p + offset D c j) (takes D c j) t' (j' ∷ q) (after D top q + offset D c j') (takes D c j')
      go (yes e) = inl (h.0, cc)
      go (no n) =
          let k = rules.spacing j l j' l' i (omega arith) in
          inr (clear_shifted t t' (after D top p) (after D top q) _ _ _ _ h.0 (ap (after D top) h.1) k)
  once_inside p q j j' c rules l l' i (inr h) =
      let a = rules.span j' l' j l (cc) in
      let b = rules.span j l j' l' i in
      inr (clear_inside (delay D c) t t' (after D top p) (after D top q) _ _ _ _ h (omega arith) (omega arith))

module _ {D : Design} {top : ℕ} {S : ℕ → Type 0} (g : Started D top S) (t t' : ℕ) (s : S t) (s' : S t') where
  pub once : (p q : List ℕ) → PathOf D top p → PathOf D top q → unit D top p ≡ unit D top q
      → Once t p (after D top p) (lasts D top p) t' q (after D top q) (lasts D top q)
  once [] [] v w e = ⊎_elim (λ h. inl (h, refl)) (λ h. inr (simp add-zero h)) (starts_clear (delay D top) S g.starts t t' s s')
  once [] (j ∷ q) v w e = absurd (nil≢cons e)
  once (j ∷ p) [] v w e = absurd (nil≢cons (sym e))
  once (j ∷ p) (j' ∷ q) v w e =
      let u : unit D top p ≡ unit D top q = cc in
      let r : reach D top p ≡ reach D top q = same_component D top p q u in
      let i : instance D (reach D top p) j ≡ instance D (reach D top q) j' = cc in
      let m : lasts D top p ≡ lasts D top q = cc (lasts_delay g.placed j p v, lasts_delay g.placed j' q w) in
      rw (← r) (once_inside D top t t' p q j j' (reach D top p) (use_rules g.placed p v.1) v.0 (rw (← r) at w.0) (rw (← r) at i)
      (rw (← lasts_delay g.placed j p v) (rw (← m) at (once p q v.1 w.1 u))))

  -- "No unit starts again before its own delay has passed."
  pub not_again : (p q : List ℕ) → PathOf D top p → PathOf D top q → unit D top p ≡ unit D top q → t + after D top p ≤ t' + after D top q
      → ((t ≡ t') × (p ≡ q)) ⊎ (t + after D top p + lasts D top p ≤ t' + after D top q)
  not_again p q v w e l = ⊎_elim inl (λ k. inr (clear_later _ _ _ (lasts D top q) l (lasts_some g.placed q w) k)) (once p q v w e)
