-- No pin is driven or promised by two uses in one cycle: its interval is no longer than a use of the unit lasts, and uses of the unit are apart.
-- Assumes nothing.
use Rattle.std.specs.Prelude.{ℕ, ◌+◌, ◌≤◌, ◌<◌, ◌≡◌, List, [], ◌∷◌}
use Rattle.std.proofs.Common.{ap, inl, inr, ⊎_elim, arith}
use Rattle.timeline.specs.Design.{Design, Port, input_count, output_count, input, output}
use Rattle.timeline.specs.Rules.{Clear, Holds}
use Rattle.timeline.specs.Uses.{reach, PathOf, unit, after, lasts, offers}
use Rattle.timeline.proofs.Takes.{gives_start, gives_interval, input_interval}
use Rattle.timeline.proofs.Down.{Placed, Started, use_rules, same_component}
use Rattle.timeline.proofs.Apart.{once}

-- Ports that start alike, of uses that last d and d' and are clear of each other, do not both hold a cycle.
not_both : (q q' : Port) (a d a' d' x : ℕ) → q.start ≡ q'.start → q.end ≤ q.start + d → q'.end ≤ q'.start + d' → Clear a d a' d'
    → Holds q a x → Holds q' a' x → ⊥
not_both q q' a d a' d' x e l l' (inl h) u v = omega arith
not_both q q' a d a' d' x e l l' (inr h) u v = omega arith

module _ {D : Design} {top : ℕ} (h : Placed D top) where
  -- A port's interval is no longer than the use lasts.
  pub input_over : (p : List ℕ) (i : ℕ) → PathOf D top p → i < input_count D (reach D top p)
      → (input D (reach D top p) i).end ≤ (input D (reach D top p) i).start + lasts D top p
  input_over [] i w l = let e = (use_rules h [] w).intervals.input_interval i l in omega arith
  input_over (j ∷ p) i w l = input_interval D (reach D top p) j i (use_rules h (j ∷ p) w) l

  pub output_over : (p : List ℕ) (o : ℕ) → PathOf D top p → o < output_count D (reach D top p)
      → (offers D top p o).end ≤ (offers D top p o).start + lasts D top p
  output_over [] o w l = let e = (use_rules h [] w).intervals.output_interval o l in omega arith
  output_over (j ∷ p) o w l = gives_interval D (reach D top p) j o (use_rules h (j ∷ p) w) l

offers_start : (D : Design) (top : ℕ) (p : List ℕ) (o : ℕ) → (offers D top p o).start ≡ (output D (reach D top p) o).start
offers_start D top [] o = cc
offers_start D top (j ∷ p) o = gives_start D (reach D top p) j o

module _ {D : Design} {top : ℕ} {S : ℕ → Type 0} (g : Started D top S) (t t' : ℕ) (p p' : List ℕ) (x : ℕ) (s : S t) (s' : S t')
    (w : PathOf D top p) (w' : PathOf D top p') (e : unit D top p ≡ unit D top p') where
  -- Two uses of a unit that hold one cycle in ports which start alike, and are over when their use is, are one use.
  one_use : (q q' : Port) → q.start ≡ q'.start → q.end ≤ q.start + lasts D top p → q'.end ≤ q'.start + lasts D top p'
      → Holds q (t + after D top p) x → Holds q' (t' + after D top p') x → (t ≡ t') × (p ≡ p')
  one_use q q' f l l' h h' = ⊎_elim (λ k. k) (λ k. absurd (not_both q q' _ _ _ _ x f l l' k h h')) (once g t t' s s' p p' w w' e)

  pub input_once : (i : ℕ) → i < input_count D (reach D top p) → Holds (input D (reach D top p) i) (t + after D top p) x
      → Holds (input D (reach D top p') i) (t' + after D top p') x → (t ≡ t') × (p ≡ p')
  input_once i l h h' =
      let r : reach D top p ≡ reach D top p' = same_component D top p p' e in
      one_use (input D (reach D top p) i) (input D (reach D top p') i) (ap (λ c. (input D c i).start) r)
      (input_over g.placed p i w l) (input_over g.placed p' i w' (rw r at l)) h h'

  pub output_once : (o : ℕ) → o < output_count D (reach D top p) → Holds (offers D top p o) (t + after D top p) x
      → Holds (offers D top p' o) (t' + after D top p') x → (t ≡ t') × (p ≡ p')
  output_once o l h h' =
      let r : reach D top p ≡ reach D top p' = same_component D top p p' e in
      let f : (offers D top p o).start ≡ (offers D top p' o).start = cc (offers_start D top p o, offers_start D top p' o) in
      one_use (offers D top p o) (offers D top p' o) f
      (output_over g.placed p o w l) (output_over g.placed p' o w' (rw r at l)) h h'
