-- The register as it runs: a state's bit is set exactly when the state is active. A bit that is set has moved on from the state before, one cycle earlier.
-- Assumes nothing.
use Prim.Native.Nat.{ℕ, zero, suc, ◌≤◌, ◌<◌}
use Rattle.std.specs.Prelude.{Bool, true, ◌≡◌, List, [], ◌∷◌, ◌↔◌, get_or, take}
use Rattle.std.proofs.Math.Bool.{false}
use Rattle.std.proofs.Math.Path.{refl}
use Rattle.std.proofs.Math.ListN.{replicate}
use Rattle.std.proofs.Common.{get_or-take}
use native.Mathlib.Omega.{arith}
use Rattle.std.proofs.Math.Decide.{dec_lt}
use Rattle.timetable.specs.Register.{Active, next, bits_in}

not_true : {b : Bool} → b ≡ false → b ≡ true → ⊥
not_true e f = let z : ◌≡◌ {A = ℕ} 0 1 = cc in omega arith

empty : (n i : ℕ) → get_or (replicate n false) i false ≡ false
empty zero i = refl
empty (suc n) zero = refl
empty (suc n) (suc i) = empty n i

past_last : (n : ℕ) (bits : List Bool) (i : ℕ) → n ≤ i → get_or (take n bits) i false ≡ false
past_last zero bits i l = refl
past_last (suc n) [] i l = refl
past_last (suc n) (b ∷ bits) zero l = absurd (omega arith)
past_last (suc n) (b ∷ bits) (suc i) l = past_last n bits i (omega arith)

module _ (n : ℕ) (s : ℕ → Bool) where
  -- The state is active on account of some start.
  abbrev On : (x i : ℕ) → Type 0
  On x i = (t : ℕ) × Active n (λ y. s y ≡ true) x i t

  no_more : (x i : ℕ) → n ≤ i → get_or (bits_in n s x) i false ≡ false
  unfolding bits_in next
  no_more zero i l = past_last n (s 0 ∷ replicate n false) i l
  no_more (suc x) i l = past_last n (s (suc x) ∷ bits_in n s x) i l

  below_last : (x i : ℕ) → i < n → (get_or (bits_in n s x) i false ≡ true) ↔ On x i
  unfolding bits_in next
  below_last zero zero l =
      rw (get_or-take n (s 0 ∷ replicate n false) 0 false l) (
        λ h. (0, record { below = l; started = h; before = refl }),
        λ a. let z : a.0 ≡ 0 = omega (arith, a.1.before) in rw z at a.1.started,
      )
  below_last zero (suc i) l =
      rw (get_or-take n (s 0 ∷ replicate n false) (suc i) false l) (
        λ h. absurd (not_true (empty n i) h),
        λ a. absurd (omega (arith, a.1.before)),
      )
  below_last (suc x) zero l =
      rw (get_or-take n (s (suc x) ∷ bits_in n s x) 0 false l) (
        λ h. (suc x, record { below = l; started = h; before = omega arith }),
        λ a. let z : a.0 ≡ suc x = omega (arith, a.1.before) in rw z at a.1.started,
      )
  below_last (suc x) (suc i) l =
      let r = below_last x i (omega arith) in
      rw (get_or-take n (s (suc x) ∷ bits_in n s x) (suc i) false l) (
        λ h. let a = r.0 h in (a.0, record { below = l; started = a.1.started; before = omega (arith, a.1.before) }),
        λ a. r.1 (a.0, record { below = omega arith; started = a.1.started; before = omega (arith, a.1.before) }),
      )

  pub set_exactly : (x i : ℕ) → (get_or (bits_in n s x) i false ≡ true) ↔ On x i
  set_exactly x i = go (dec_lt i n)
    where
      go : Dec (i < n) → (get_or (bits_in n s x) i false ≡ true) ↔ On x i
      go (yes l) = below_last x i l
      go (no m) = (λ h. absurd (not_true (no_more x i (omega arith)) h), λ a. absurd (m a.1.below))
