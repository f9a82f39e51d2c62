-- Tests that code makes for the facts that the rules ask: a test means a fact if it passes exactly when the fact holds.
-- Assumes nothing.
use Rattle.std.specs.Prelude.{ℕ, zero, suc, ◌≤◌, ◌<◌, Bool, true, false, ◌&&◌, ◌||◌, not, ◌≡◌, refl, List, [], ◌⊎◌, length, T, eqb, ltb, leb}
use Rattle.std.proofs.Common.{ap, ◌∙◌, inl, inr, ⊎_elim, eqb→eq, ltb→lt, lt→ltb, leb→le, le→leb, arith}
use Rattle.std.proofs.Math.Dec.{eqb_refl}
use Rattle.std.proofs.Math.Decide.{ℕ_discrete}
use Rattle.timeline.specs.Design.{Class, leaf, built}
use Rattle.entry.proofs.Laws.{empty_of_length}

-- A record, so that the test and the fact are found where they are left out.
pub record Means (t : Bool) (P : Type 0) : Type 0 where
  pub to : T t → P
  pub from : P → T t

pub means_always : Means true (Unit {0})
means_always = record { to = λ t. tt; from = λ t. tt }

pub means_never : Means false ⊥
means_never = record { to = λ t. t; from = λ t. t }

-- The same test, of a fact that holds exactly when the first does.
pub means_as : {t : Bool} {P Q : Type 0} → (P → Q) → (Q → P) → Means t P → Means t Q
means_as f g m = record { to = λ t. f (m.to t); from = λ q. m.from (g q) }

pub means_both : {P Q : Type 0} {a b : Bool} → Means a P → Means b Q → Means (a && b) (P × Q)
means_both {a = true} {b = true} f g = record { to = λ t. (f.to tt, g.to tt); from = λ h. tt }
means_both {a = true} {b = false} f g = record { to = λ t. absurd t; from = λ h. g.from h.1 }
means_both {a = false} {b = b} f g = record { to = λ t. absurd t; from = λ h. f.from h.0 }

pub means_three : {P Q R : Type 0} {a b c : Bool} → Means a P → Means b Q → Means c R → Means (a && (b && c)) (P × Q × R)
means_three f g h = means_as (λ w. (w.0, w.1.0, w.1.1)) (λ x. (x.0, (x.1, x.2))) (means_both f (means_both g h))

pub means_four : {P Q R S : Type 0} {a b c d : Bool} → Means a P → Means b Q → Means c R → Means d S → Means (a && (b && (c && d))) (P × Q × R × S)
means_four f g h k = means_as (λ w. (w.0, w.1.0, w.1.1, w.1.2)) (λ x. (x.0, (x.1, x.2, x.3))) (means_both f (means_three g h k))

pub means_if : {P Q : Type 0} {a b : Bool} → Means a P → Means b Q → Means (not a || b) (P → Q)
means_if {a = true} f g = record { to = λ t p. g.to t; from = λ h. g.from (h (f.to tt)) }
means_if {a = false} f g = record { to = λ t p. absurd (f.from p); from = λ h. tt }

pub means_either : {P Q : Type 0} {a b : Bool} → Means a P → Means b Q → Means (a || b) (P ⊎ Q)
means_either {a = true} f g = record { to = λ t. inl (f.to tt); from = λ h. tt }
means_either {a = false} f g = record { to = λ t. inr (g.to t); from = λ h. ⊎_elim (λ p. absurd (f.from p)) (λ q. g.from q) h }

pub means_equal : (m n : ℕ) → Means (eqb m n) (m ≡ n)
means_equal m n = record { to = eqb→eq m n; from = λ e. rw e (eqb_refl n) }

pub means_below : (m n : ℕ) → Means (ltb m n) (m < n)
means_below m n = record { to = ltb→lt m n; from = lt→ltb m n }

pub means_most : (m n : ℕ) → Means (leb m n) (m ≤ n)
means_most m n = record { to = leb→le m n; from = le→leb m n }

-- A count of 0 is a list with nothing in it.
pub means_none : {A : Type 0} (n : ℕ) (xs : List A) → n ≡ length xs → Means (eqb n 0) (xs ≡ [])
means_none n xs e = means_as (λ z. empty_of_length xs (let y = e in omega arith)) (λ h. e ∙ ap length h) (means_equal n 0)

unfoldable pub is_built : Class → Bool
is_built leaf = false
is_built built = true

pub means_built : (b : Bool) (k : Class) → b ≡ is_built k → Means b (k ≡ built)
unfolding is_built
means_built b leaf e = rw e (record { to = λ t. absurd t; from = λ h. let z : ◌≡◌ {A = ℕ} 0 1 = cc in omega arith })
means_built b built e = rw e (record { to = λ t. refl; from = λ h. tt })

-- A loop over the numbers below n.
unfoldable pub every_below : (ℕ → Bool) → ℕ → Bool
every_below t zero = true
every_below t (suc n) = every_below t n && t n

pub means_every : (t : ℕ → Bool) (P : ℕ → Type 0) (n : ℕ) → ((j : ℕ) → j < n → Means (t j) (P j)) → Means (every_below t n) ((j : ℕ) → j < n → P j)
unfolding every_below
means_every t P zero h = record { to = λ u j l. absurd (omega arith); from = λ f. tt }
means_every t P (suc n) h =
    means_as (λ w j l. pick w j l (ℕ_discrete j n)) (λ f. (λ j l. f j (omega arith), f n (omega arith)))
    (means_both (means_every t P n (λ j l. h j (omega arith))) (h n (omega arith)))
  where
    pick : ((j : ℕ) → j < n → P j) × P n → (j : ℕ) → j < suc n → Dec (j ≡ n) → P j
    pick w j l (yes e) = rw e w.1
    pick w j l (no d) = w.0 j (omega arith)
