-- Tests joined by "and", and the facts that they stand for.
-- Assumes nothing.
use Rattle.std.specs.Prelude.{ℕ, ◌≤◌, ◌≡◌, refl, Bool, true, false, ◌&&◌, leb}
use Rattle.std.proofs.lemmas.Bool.{false≢true}
use Rattle.std.proofs.Common.{leb-true, le-leb}

pub and_both : (a b : Bool) → (a && b) ≡ true → (a ≡ true) × (b ≡ true)
and_both true true e = (refl, refl)
and_both true false e = absurd (false≢true e)
and_both false b e = absurd (false≢true e)

-- x lies between a and e, and the further test t holds.
pub record Between (a e x : ℕ) (t : Bool) : Type 0 where
  pub least : a ≤ x
  pub most : x ≤ e
  pub also : t ≡ true

module _ (a e x : ℕ) (t : Bool) where
  pub between : (leb a x && leb x e && t) ≡ true → Between a e x t
  between h =
      let p = and_both (leb a x && leb x e) t h in
      let q = and_both (leb a x) (leb x e) p.0 in
      record { least = leb-true a x q.0; most = leb-true x e q.1; also = p.1 }

  pub between_back : Between a e x t → (leb a x && leb x e && t) ≡ true
  between_back b = rw (le-leb a x b.least, le-leb x e b.most, b.also)
