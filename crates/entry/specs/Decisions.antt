-- Deciding a fact by deciding its parts: every decision is a computation that ends with a proof of the fact or of its contrary.
-- Assumes nothing.
use Rattle.std.specs.Prelude.{ℕ, zero, suc, ◌<◌, ◌≡◌, refl, List, [], ◌∷◌, ◌⊎◌}
use Rattle.std.proofs.Common.{inl, inr, ⊎_elim, arith}
use Rattle.std.proofs.Math.Decide.{ℕ_discrete, dec_le, dec_lt}
use Rattle.timeline.specs.Design.{Port, Source, own, output_of, constant, Class, leaf, built}
use Rattle.timeline.specs.Rules.{PortRange, SourceRange, Contains}

unfoldable pub decide_as : {A B : Type 0} → (A → B) → (B → A) → Dec A → Dec B
decide_as f g (yes a) = yes (f a)
decide_as f g (no n) = no (λ b. n (g b))

unfoldable pub decide_unit : Dec (Unit {0})
decide_unit = yes tt

unfoldable pub decide_never : Dec ⊥
decide_never = no (λ h. h)

unfoldable pub decide_if : {A B : Type 0} → Dec A → Dec B → Dec (A → B)
decide_if (yes a) (yes b) = yes (λ x. b)
decide_if (yes a) (no n) = no (λ f. n (f a))
decide_if (no m) d = yes (λ a. absurd (m a))

unfoldable pub decide_both : {A B : Type 0} → Dec A → Dec B → Dec (A × B)
decide_both (yes a) (yes b) = yes (a, b)
decide_both (yes a) (no n) = no (λ p. n p.1)
decide_both (no m) d = no (λ p. m p.0)

unfoldable pub decide_three : {A B C : Type 0} → Dec A → Dec B → Dec C → Dec (A × B × C)
decide_three a b c = decide_as (λ h. (h.0, h.1.0, h.1.1)) (λ h. (h.0, (h.1, h.2))) (decide_both a (decide_both b c))

unfoldable pub decide_four : {A B C D : Type 0} → Dec A → Dec B → Dec C → Dec D → Dec (A × B × C × D)
decide_four a b c d = decide_as (λ h. (h.0, h.1.0, h.1.1, h.1.2)) (λ h. (h.0, (h.1, h.2, h.3))) (decide_both a (decide_three b c d))

unfoldable pub decide_either : {A B : Type 0} → Dec A → Dec B → Dec (A ⊎ B)
decide_either (yes a) d = yes (inl a)
decide_either (no m) (yes b) = yes (inr b)
decide_either (no m) (no n) = no (⊎_elim m n)

unfoldable pub decide_below : {n : ℕ} {P : ℕ → Type 0} → ((i : ℕ) → Dec (P i)) → Dec ((i : ℕ) → i < n → P i)
decide_below {n = zero} d = yes (λ i l. absurd (omega arith))
decide_below {n = suc n} {P = P} d = go (decide_below {n = n} {P = P} d) (d n)
  where
    go : Dec ((i : ℕ) → i < n → P i) → Dec (P n) → Dec ((i : ℕ) → i < suc n → P i)
    go (no m) e = no (λ f. m (λ i l. f i (omega arith)))
    go (yes a) (no m) = no (λ f. m (f n (omega arith)))
    go (yes a) (yes b) = yes (λ i l. below (ℕ_discrete i n) l)
      where
        below : {i : ℕ} → Dec (i ≡ n) → i < suc n → P i
        below (yes e) l = rw e b
        below {i} (no m) l = a i (omega arith)

unfoldable pub decide_empty : {A : Type 0} (xs : List A) → Dec (xs ≡ [])
decide_empty [] = yes refl
decide_empty (x ∷ xs) = no (λ e. let z : ◌≡◌ {A = ℕ} 0 1 = cc in omega arith)

unfoldable pub decide_class : (k l : Class) → Dec (k ≡ l)
decide_class leaf leaf = yes refl
decide_class leaf built = no (λ e. let z : ◌≡◌ {A = ℕ} 0 1 = cc in omega arith)
decide_class built leaf = no (λ e. let z : ◌≡◌ {A = ℕ} 0 1 = cc in omega arith)
decide_class built built = yes refl

unfoldable pub decide_port_range : (p : Port) → Dec (PortRange p)
decide_port_range p =
    decide_as (λ h. record { some = h.0; most = h.1; wide = h.2; narrow = h.3 }) (λ r. (r.some, r.most, r.wide, r.narrow))
    (decide_four (dec_lt _ _) (dec_le _ _) (dec_le _ _) (dec_le _ _))

unfoldable pub decide_source_range : (s : Source) → Dec (SourceRange s)
decide_source_range (own i) = dec_lt _ _
decide_source_range (output_of j o) = decide_both (dec_lt _ _) (dec_lt _ _)
decide_source_range (constant v) = dec_lt _ _

unfoldable pub decide_contains : (p : Port) (a : ℕ) (q : Port) (b : ℕ) → Dec (Contains p a q b)
decide_contains p a q b = decide_as (λ h. record { from = h.0; upto = h.1 }) (λ c. (c.from, c.upto)) (decide_both (dec_le _ _) (dec_le _ _))

pub ruleset decisions = (decide_unit, decide_never, decide_if, decide_both, decide_three, decide_four, decide_either, decide_below, decide_empty, decide_class, decide_port_range, decide_source_range, decide_contains, dec_le, dec_lt, ℕ_discrete)
