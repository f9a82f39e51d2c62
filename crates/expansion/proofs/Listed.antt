-- The rows that notes list: one, or those of the notes, each with its offset and units added.
-- Assumes nothing.
use Prim.Native.Nat.{ℕ, zero, suc, ◌+◌, ◌-◌, ◌≤◌, ◌<◌}
use mathlib.Core.Path.{◌≡◌, refl, ap₂, ◌∙◌}
use mathlib.Core.List.{List, [], ◌∷◌, ◌++◌}
use native.Mathlib.Omega.{arith}
use borrow.Author.Tests.{lt-ltb, le-ltb}
use Rattle.expansion.specs.declared.Note.{Note}
use Rattle.expansion.specs.Notes.{note_component, note_offset, note_units, first_note, join_from, listed_to, listed, listed_from}
use Rattle.expansion.specs.Asked.{Sound}

pub join_from_same : {A : Type 0} (n e : ℕ) (f g : ℕ → List A) → ((i : ℕ) → e ≤ i → i < e + n → f i ≡ g i) → join_from n e f ≡ join_from n e g
unfolding join_from
join_from_same zero e f g h = refl
join_from_same (suc n) e f g h = ap₂ ◌++◌ (h e (omega arith) (omega arith)) (join_from_same n (e + 1) f g (λ i l m. h i (omega arith) (omega arith)))

pub join_from_more : {A : Type 0} (n e : ℕ) (f : ℕ → List A) → 0 < n → join_from n e f ≡ f e ++ join_from (n - 1) (e + 1) f
unfolding join_from
join_from_more zero e f h = absurd (omega arith)
join_from_more (suc n) e f h = let p : suc n - 1 ≡ n = omega arith in rw p

module _ (noted : List Note) (ends : List ℕ) where
  pub listed_leaf : (c t u : ℕ) → first_note ends (c + 1) ≤ first_note ends c → listed noted ends c t u ≡ record { cycle = t; unit = u; component = c } ∷ []
  unfolding listed listed_to
  listed_leaf c t u h = rw (le-ltb (first_note ends c) (first_note ends (c + 1)) h)

  pub listed_notes : (c t u : ℕ) → first_note ends c < first_note ends (c + 1) → listed noted ends c t u ≡ listed_from noted ends c (first_note ends c) t u
  unfolding listed listed_to listed_from
  listed_notes c t u h = rw (lt-ltb (first_note ends c) (first_note ends (c + 1)) h)

  pub from_none : (c e t u : ℕ) → first_note ends (c + 1) ≤ e → listed_from noted ends c e t u ≡ []
  unfolding listed_from join_from
  from_none c e t u h = let z : first_note ends (c + 1) - e ≡ 0 = omega arith in rw z

-- Any depth above the component gives the same rows.
module _ (noted : List Note) (ends : List ℕ) (k : ℕ) (s : Sound noted ends k) where
  depth_same : (f g c t u : ℕ) → c < k → c < f → c < g → listed_to noted ends f c t u ≡ listed_to noted ends g c t u
  unfolding listed_to
  depth_same zero g c t u b p q = absurd (omega arith)
  depth_same (suc f) zero c t u b p q = absurd (omega arith)
  depth_same (suc f) (suc g) c t u b p q =
      rw (join_from_same (first_note ends (c + 1) - first_note ends c) (first_note ends c)
      (λ e. listed_to noted ends f (note_component noted e) (t + note_offset noted e) (u + note_units noted e))
      (λ e. listed_to noted ends g (note_component noted e) (t + note_offset noted e) (u + note_units noted e))
      (λ e l m. let n = s.lower c b e l (omega arith) in
      depth_same f g (note_component noted e) (t + note_offset noted e) (u + note_units noted e) (omega arith) (omega arith) (omega arith)))

  pub from_more : (c e t u : ℕ) → c < k → first_note ends c ≤ e → e < first_note ends (c + 1)
      → listed_from noted ends c e t u ≡ listed noted ends (note_component noted e) (t + note_offset noted e) (u + note_units noted e) ++ listed_from noted ends c (e + 1) t u
  unfolding listed_from listed
  from_more c e t u b l m =
      let n = s.lower c b e l m in
      let p : first_note ends (c + 1) - e - 1 ≡ first_note ends (c + 1) - (e + 1) = omega arith in
      join_from_more (first_note ends (c + 1) - e) e (λ e. listed_to noted ends c (note_component noted e) (t + note_offset noted e) (u + note_units noted e)) (omega arith)
      ∙ rw (p, depth_same c (suc (note_component noted e)) (note_component noted e) (t + note_offset noted e) (u + note_units noted e) (omega arith) n (omega arith))

  pub listed_join : (c t u : ℕ) → c < k → first_note ends c < first_note ends (c + 1)
      → listed noted ends c t u ≡ join_from (first_note ends (c + 1) - first_note ends c) (first_note ends c) (λ e. listed noted ends (note_component noted e) (t + note_offset noted e) (u + note_units noted e))
  unfolding listed_from listed
  listed_join c t u b h =
      listed_notes noted ends c t u h
      ∙ join_from_same (first_note ends (c + 1) - first_note ends c) (first_note ends c) _ _
      (λ e l m. let n = s.lower c b e l (omega arith) in depth_same c (suc (note_component noted e)) (note_component noted e) (t + note_offset noted e) (u + note_units noted e) (omega arith) n (omega arith))
