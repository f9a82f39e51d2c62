-- Nothing is left of a number after w bits exactly when it is below 2 to the w.
-- Assumes nothing.
use Rattle.std.specs.Prelude.{ℕ, ◌+◌, ◌*◌, ◌/◌, ◌^◌, ◌≤◌, ◌<◌, ◌≡◌, refl, Bool, true, false, eqb, ltb, leb}
use Rattle.std.proofs.Common.{arith, ◌∙◌, sym}
use Rattle.std.proofs.lemmas.Bool.{lt-ltb, ltb-true, ltb-false, eq-eqb, ne_eqb, le-leb}
use lib.Pow.{high, shl-shr, shr_mono, pow_mono}

pub none_left : (v w : ℕ) → eqb (v / 2 ^ w) 0 ≡ ltb v (2 ^ w)
none_left v w = go (ltb v (2 ^ w)) refl
  where
    go : (b : Bool) → ltb v (2 ^ w) ≡ b → eqb (v / 2 ^ w) 0 ≡ ltb v (2 ^ w)
    go true e =
        let z : 0 * 2 ^ w + v ≡ v = omega arith in
        let y : v / 2 ^ w ≡ 0 = rw z at (high 0 w {lo = v} (ltb-true v (2 ^ w) e)) in
        eq-eqb (v / 2 ^ w) 0 y ∙ sym e
    go false e =
        let m : 1 * 2 ^ w ≤ v = let y : 2 ^ w ≤ v = ltb-false _ _ e in omega arith in
        let l : 1 ≤ v / 2 ^ w = rw (shl-shr 1 w) at (shr_mono w m) in
        ne_eqb (v / 2 ^ w) 0 (λ z. absurd (omega arith)) ∙ sym e

pub all_below : (v w : ℕ) → v < 2 ^ 64 → 64 ≤ w → leb 64 w ≡ ltb v (2 ^ w)
all_below v w l m = le-leb 64 w m ∙ sym (lt-ltb v (2 ^ w) (let p = pow_mono m in omega arith))
