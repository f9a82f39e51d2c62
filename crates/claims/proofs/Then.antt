-- An answer that follows another: the refusal of the first, or what comes after its acceptance.
-- Assumes nothing.
use mathlib.Core.Path.{◌≡◌, refl, ap, sym, ◌∙◌}
use mathlib.Core.Logic.{◌↔◌, ◌⊎◌, inl, inr}
use Rattle.answers.specs.Answer.{Answer, accepted, refused, then, Refusal}
use Rattle.answers.specs.Once.{apart, one_refusal}

module _ {A B : Type 0} (f : A → Answer B) where
  pub then_accepted : (a : Answer A) (b : B) → (then a f ≡ accepted b) ↔ ((k : A) × (a ≡ accepted k) × (f k ≡ accepted b))
  then_accepted (accepted k) b = (λ e. (k, refl, e), λ h. ap (λ (a : Answer A). then a f) h.1 ∙ h.2)
  then_accepted (refused r) b = (λ e. absurd (apart (sym e)), λ h. ap (λ (a : Answer A). then a f) h.1 ∙ h.2)

  pub then_refused : (a : Answer A) (r : Refusal) → (then a f ≡ refused r) ↔ ((a ≡ refused r) ⊎ ((k : A) × (a ≡ accepted k) × (f k ≡ refused r)))
  then_refused (accepted k) r = (λ e. inr (k, refl, e), back)
    where
      back : (accepted k ≡ refused r) ⊎ ((j : A) × (accepted k ≡ accepted j) × (f j ≡ refused r)) → f k ≡ refused r
      back (inl e) = absurd (apart e)
      back (inr h) = ap (λ (a : Answer A). then a f) h.1 ∙ h.2
  then_refused (refused q) r = (λ e. inl (ap refused (one_refusal e)), back)
    where
      back : (◌≡◌ {A = Answer A} (refused q) (refused r)) ⊎ ((j : A) × (◌≡◌ {A = Answer A} (refused q) (accepted j)) × (f j ≡ refused r)) → ◌≡◌ {A = Answer B} (refused q) (refused r)
      back (inl e) = ap refused (one_refusal e)
      back (inr h) = ap (λ (a : Answer A). then a f) h.1 ∙ h.2
