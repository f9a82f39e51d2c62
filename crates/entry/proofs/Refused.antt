-- Where the walk stops is the refusal: the first record that breaks a rule, and the first rule in the table's order that it breaks. No list has two.
-- Assumes nothing.
use Rattle.std.specs.Prelude.{ℕ, zero, suc, ◌+◌, ◌<◌, refl, List, [], ◌∷◌, ◌⊎◌, ◌↔◌, get_or, take}
use Rattle.std.proofs.Math.Path.{◌≡◌, ap}
use Rattle.std.proofs.Common.{sym, ◌∙◌}
use Rattle.std.proofs.Math.Logic.{inl, inr, ⊎_elim}
use Rattle.std.proofs.Math.ListN.{length}
use native.Mathlib.Omega.{arith}
use Rattle.answers.specs.Answer.{accepted, refused, Counts, Refusal}
use Rattle.answers.specs.Once.{apart, one_refusal}
use Rattle.entry.specs.Records.{Record, wrong}
use Rattle.entry.specs.Entered.{Entered, nothing, enter, enter_all, said, design}
use Rattle.entry.specs.Asks.{asks, ending}
use Rattle.entry.specs.Told.{told}
use Rattle.entry.specs.Answers.{Broken, FirstBroken, before, Breaks, BreaksFirst, Refuses}
use Rattle.entry.specs.Verdict.{judge, verdict}
use Rattle.entry.proofs.Good.{Keeps}
use Rattle.entry.proofs.First.{kept_unbroken, first_broken, one_first}
use Rattle.entry.proofs.Unbroken.{Unbroken, Stops}
use Rattle.entry.proofs.Judged.{Judged, goes, stops, judged}

-- `Breaks` and `Refuses` of Answers, after what has been entered.
module _ (e : Entered) (rs : List Record) where
  abbrev BreaksAfter : (p n : ℕ) → Type 0
  BreaksAfter p n = ((p < length rs) × Broken (asks (enter_all e (take p rs)) (get_or rs p wrong)) n) ⊎ ((p ≡ length rs) × Broken (ending (enter_all e (take p rs))) n)

  abbrev FirstAfter : (p n : ℕ) → Type 0
  FirstAfter p n = ((p < length rs) × FirstBroken (asks (enter_all e (take p rs)) (get_or rs p wrong)) n) ⊎ ((p ≡ length rs) × FirstBroken (ending (enter_all e (take p rs))) n)

  record RefusesAfter (n p : ℕ) : Type 0 where
    pub breaks : FirstAfter p n
    pub earlier : (q : ℕ) → q < p → (m : ℕ) → ¬ (BreaksAfter q m)

breaks_end : (e : Entered) (p n : ℕ) → BreaksAfter e [] p n → Broken (ending e) n
unfolding enter_all
breaks_end e zero n b = ⊎_elim (λ x. absurd (omega arith)) (λ x. x.1) b
breaks_end e (suc p) n b = ⊎_elim (λ x. absurd (omega arith)) (λ x. absurd (omega arith)) b

module _ (e : Entered) (r : Record) (rs : List Record) where
  breaks_here : (n : ℕ) → BreaksAfter e (r ∷ rs) 0 n → Broken (asks e r) n
  unfolding enter_all
  breaks_here n b = ⊎_elim (λ x. x.1) (λ x. absurd (omega arith)) b

  breaks_later : (p n : ℕ) → BreaksAfter e (r ∷ rs) (suc p) n → BreaksAfter (enter e r) rs p n
  unfolding enter_all
  breaks_later p n b = ⊎_elim (λ x. inl (omega arith, x.1)) (λ x. inr (omega arith, x.1)) b

  breaks_shift : (p n : ℕ) → FirstAfter (enter e r) rs p n → FirstAfter e (r ∷ rs) (suc p) n
  unfolding enter_all
  breaks_shift p n b = ⊎_elim (λ x. inl (omega arith, x.1)) (λ x. inr (omega arith, x.1)) b

unbroken_nowhere : (e : Entered) (rs : List Record) → Unbroken e rs → (p n : ℕ) → ¬ (BreaksAfter e rs p n)
unfolding Unbroken
unbroken_nowhere e [] u p n b = kept_unbroken (ending e) u n (breaks_end e p n b)
unbroken_nowhere e (r ∷ rs) u zero n b = kept_unbroken (asks e r) u.0 n (breaks_here e r rs n b)
unbroken_nowhere e (r ∷ rs) u (suc p) n b = unbroken_nowhere (enter e r) rs u.1 p n (breaks_later e r rs p n b)

refusal_later : (e : Entered) (r : Record) (rs : List Record) (n p : ℕ) → Keeps (asks e r) → RefusesAfter (enter e r) rs n p → RefusesAfter e (r ∷ rs) n (suc p)
refusal_later e r rs n p k h =
    record { breaks = breaks_shift e r rs p n h.breaks; earlier = earlier }
  where
    earlier : (q : ℕ) → q < suc p → (m : ℕ) → ¬ (BreaksAfter e (r ∷ rs) q m)
    earlier zero l m b = kept_unbroken (asks e r) k m (breaks_here e r rs m b)
    earlier (suc q) l m b = h.earlier q (omega arith) m (breaks_later e r rs q m b)

stops_refusal : (e : Entered) (rs : List Record) (n p : ℕ) → Stops e rs n p → RefusesAfter e rs n p
unfolding Stops enter_all
stops_refusal e [] n zero s =
    record { breaks = inr (refl, s); earlier = λ q l. absurd (omega arith) }
stops_refusal e [] n (suc p) s = absurd s
stops_refusal e (r ∷ rs) n zero s =
    record { breaks = inl (omega arith, s); earlier = λ q l. absurd (omega arith) }
stops_refusal e (r ∷ rs) n (suc p) s = refusal_later e r rs n p s.0 (stops_refusal (enter e r) rs n p s.1)

module _ (rs : List Record) where
  -- What is told of the rule n that record p breaks.
  abbrev tells : (p n : ℕ) → Refusal
  tells p n = told (before rs p) (get_or rs p wrong) p n

  pub broken : (p n : ℕ) → BreaksFirst rs p n → Breaks rs p n
  broken p n b = ⊎_elim (λ x. inl (x.0, first_broken _ n x.1)) (λ x. inr (x.0, first_broken _ n x.1)) b

  stops_here : (n p : ℕ) → Stops nothing rs n p → Refuses rs (tells p n)
  stops_here n p s = let h = stops_refusal nothing rs n p s in record { position = p; number = n; breaks = h.breaks; earlier = h.earlier; tells = refl }

  one_breaks : (p n m : ℕ) → BreaksFirst rs p n → BreaksFirst rs p m → n ≡ m
  one_breaks p n m (inl x) (inl y) = one_first _ n m x.1 y.1
  one_breaks p n m (inl x) (inr y) = let a = x.0 in let b = y.0 in absurd (omega arith)
  one_breaks p n m (inr x) (inl y) = let a = x.0 in let b = y.0 in absurd (omega arith)
  one_breaks p n m (inr x) (inr y) = one_first _ n m x.1 y.1

  -- The first record and the first rule determine what is told.
  one_told : (r q : Refusal) → Refuses rs r → Refuses rs q → r ≡ q
  one_told r q h g = h.tells ∙ ap (λ (p : ℕ). tells p h.number) same ∙ ap (tells g.position) numbers ∙ sym g.tells
    where
      not_before : {r q : Refusal} → (h : Refuses rs r) → (g : Refuses rs q) → ¬ (h.position < g.position)
      not_before h g l = g.earlier h.position l h.number (broken h.position h.number h.breaks)

      same : h.position ≡ g.position
      same = let a = not_before h g in let b = not_before g h in omega arith

      numbers : h.number ≡ g.number
      numbers = one_breaks g.position h.number g.number (rw (← same) h.breaks) g.breaks

  pub refusal_exactly : (r : Refusal) → (verdict rs ≡ refused r) ↔ Refuses rs r
  unfolding verdict
  refusal_exactly r = (λ a. to (judged nothing 0 rs) a, from (judged nothing 0 rs))
    where
      start : (n q : ℕ) → judge nothing 0 rs ≡ refused (told (before rs q) (get_or rs q wrong) (0 + q) n) → judge nothing 0 rs ≡ refused (tells q n)
      start n q b = b ∙ ap (λ (p : ℕ). refused (told (before rs q) (get_or rs q wrong) p n)) (omega arith)

      to : Judged nothing 0 rs → judge nothing 0 rs ≡ refused r → Refuses rs r
      to (goes u b) a = absurd (apart (sym b ∙ a))
      to (stops m q s b) a = let x : tells q m ≡ r = one_refusal (sym (start m q b) ∙ a) in rw (← x) (stops_here m q s)

      from : Judged nothing 0 rs → Refuses rs r → judge nothing 0 rs ≡ refused r
      from (goes u b) h = absurd (unbroken_nowhere nothing rs u h.position h.number (broken h.position h.number h.breaks))
      from (stops m q s b) h = start m q b ∙ ap refused (one_told (tells q m) r (stops_here m q s) h)

  pub accepted_unbroken : (k : Counts) → verdict rs ≡ accepted k → Unbroken nothing rs × (length (design rs) ≡ k.components) × (length rs ≡ k.records)
  unfolding verdict design
  accepted_unbroken k a = go (judged nothing 0 rs)
    where
      go : Judged nothing 0 rs → Unbroken nothing rs × (length (said (enter_all nothing rs)) ≡ k.components) × (length rs ≡ k.records)
      go (goes u b) =
          let c : ◌≡◌ {A = Counts} (record { components = length (said (enter_all nothing rs)); records = 0 + length rs }) k = cc in
          let y : 0 + length rs ≡ k.records = ap (λ (x : Counts). x.records) c in
          (u, ap (λ (x : Counts). x.components) c, omega arith)
      go (stops n p s b) = absurd (apart (sym a ∙ b))

  pub unbroken_accepted : Unbroken nothing rs → verdict rs ≡ accepted (record { components = length (design rs); records = length rs })
  unfolding verdict design
  unbroken_accepted u = go (judged nothing 0 rs)
    where
      go : Judged nothing 0 rs → judge nothing 0 rs ≡ accepted (record { components = length (said (enter_all nothing rs)); records = length rs })
      go (goes v b) = b ∙ ap (λ (n : ℕ). accepted (record { components = length (said (enter_all nothing rs)); records = n })) (omega arith)
      go (stops n p s b) = absurd (unbroken_nowhere nothing rs u p n (broken p n (stops_refusal nothing rs n p s).breaks))

  pub accepted_nowhere : (k : Counts) → verdict rs ≡ accepted k → (p n : ℕ) → ¬ (Breaks rs p n)
  accepted_nowhere k a = unbroken_nowhere nothing rs (accepted_unbroken k a).0
