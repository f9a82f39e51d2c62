-- What follows the verdict on a file: it speaks of the design that the file says.
-- Assumes nothing.
use Prim.Native.Nat.{ℕ}
use mathlib.Core.List.{List}
use mathlib.Core.Logic.{◌↔◌, ◌⊎◌, inl, inr}
use mathlib.Core.Path.{◌≡◌, ap, ◌∙◌}
use lib.ListN.{length}
use Rattle.answers.specs.Answer.{Answer, accepted, refused, then, Counts, Refusal}
use Rattle.blocks.proofs.Accepted.{sound_count}
use Rattle.timeline.specs.Design.{Design}
use Rattle.verdict.specs.Judgement.{judgement}
use Rattle.verdict.proofs.Passed.{passed, record_total}
use Rattle.groups.specs.Groups.{design_of}
use Rattle.claims.specs.File.{said_design}
use Rattle.claims.proofs.Then.{then_accepted, then_refused}
use Rattle.claims.proofs.Main as Main

module _ (file : List ℕ) (lent : ℕ) (k : Counts) (e : judgement file lent ≡ accepted k) where
  pub same_design : design_of file k.records ≡ said_design file
  same_design =
      let p = passed file lent k e in
      ap (design_of file) (record_total file k p ∙ sound_count file p.count p.blocks)

  pub component_count : length (said_design file) ≡ k.components
  component_count = (Main.its_design file lent k e).2

module _ {A : Type 0} (f : Design → Answer A) (file : List ℕ) (lent : ℕ) where
  abbrev next : Counts → Answer A
  next k = f (design_of file k.records)

  pub after_accepted : (a : A) → (then (judgement file lent) next ≡ accepted a) ↔ ((k : Counts) × (judgement file lent ≡ accepted k) × (f (said_design file) ≡ accepted a))
  after_accepted a = (
    λ e. (let (k, j, g) = (then_accepted next (judgement file lent) a).0 e in (k, j, rw (same_design file lent k j) at g)),
    λ h. (then_accepted next (judgement file lent) a).1 (h.0, h.1, rw (same_design file lent h.0 h.1) h.2),
  )

  pub after_refused : (r : Refusal) → (then (judgement file lent) next ≡ refused r)
      ↔ (Main.First file lent r ⊎ ((k : Counts) × (judgement file lent ≡ accepted k) × (f (said_design file) ≡ refused r)))
  after_refused r = (λ e. to ((then_refused next (judgement file lent) r).0 e), λ h. (then_refused next (judgement file lent) r).1 (from h))
    where
      to : (judgement file lent ≡ refused r) ⊎ ((k : Counts) × (judgement file lent ≡ accepted k) × (next k ≡ refused r))
          → Main.First file lent r ⊎ ((k : Counts) × (judgement file lent ≡ accepted k) × (f (said_design file) ≡ refused r))
      to (inl h) = inl ((Main.refused_exactly file lent r).0 h)
      to (inr (k, j, g)) = inr (k, j, rw (same_design file lent k j) at g)

      from : Main.First file lent r ⊎ ((k : Counts) × (judgement file lent ≡ accepted k) × (f (said_design file) ≡ refused r))
          → (judgement file lent ≡ refused r) ⊎ ((k : Counts) × (judgement file lent ≡ accepted k) × (next k ≡ refused r))
      from (inl h) = inl ((Main.refused_exactly file lent r).1 h)
      from (inr (k, j, g)) = inr (k, j, rw (same_design file lent k j) g)
