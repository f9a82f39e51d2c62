-- What is noted stays right, and what it is good for.
-- Assumes nothing.
use Prim.Native.Nat.{ℕ, ◌+◌, ◌≤◌, ◌<◌, min, max}
use mathlib.Core.Bool.{Bool, true, false}
use mathlib.Core.Path.{◌≡◌, refl, ap, ◌∙◌}
use mathlib.Core.List.{List}
use native.Mathlib.Decide.{ℕ_discrete}
use native.Mathlib.Omega.{arith}
use lib.ListN.{get_or, set, replicate, length-set, length-replicate, get_or-replicate, get_or-eq_default}
use lib.Seq.{get_or-set_same, get_or-set_other}
use lib.Dec.{ltb}
use borrow.Author.Tests.{ltb-true, ltb-false}
use Rattle.reading.specs.Place as Reading
use Rattle.order.specs.declared.Place.{Place}
use Rattle.order.specs.Seen.{seen}
use Rattle.rules.specs.Known.{Known}
use Rattle.reader.specs.declared.Reader.{Reader}
use Rattle.reader.specs.State.{zeros, unnamed}
use Rattle.reader.specs.Noted.{Noted}

module _ (r : Reader) (instances offsets firsts least greatest : List ℕ) (h : Noted r instances offsets firsts least greatest) where
  pub noted_at : (q : Reader) → q ≡ r → Noted q instances offsets firsts least greatest
  noted_at q e = rw e h

  -- Of instance n.
  pub known_of : (at n : ℕ) → at ≡ n → n < 32 → Known instances offsets r.place.invocations n (get_or least at 0) (get_or greatest at 0)
  known_of at n e l =
      record {
        low = λ j p i. rw (e, ← i) (h.low j p);
        high = λ j p i. rw (e, ← i) (h.high j p);
        small = λ j p. omega (arith, h.small j p);
        unused = λ j p u i. absurd (omega (arith, h.unused j p u, i, l));
      }

  -- A reader of as many invocations, with no more due.
  pub noted_moved : (q : Reader) (s : Place) (x : Reading.Place) → q.place ≡ s → seen s ≡ x → x.invocations ≡ r.place.invocations → x.built ≡ r.place.built → (0 < x.due → 0 < r.place.due)
      → Noted q instances offsets firsts least greatest
  noted_moved q s x e f a b d =
      let i : q.place.invocations ≡ r.place.invocations = ap (λ (y : Place). y.invocations) e ∙ ap (λ (y : Reading.Place). y.invocations) f ∙ a in
      let u : q.place.built ≡ r.place.built = ap (λ (y : Place). y.built) e ∙ ap (λ (y : Reading.Place). y.built) f ∙ b in
      let v : q.place.due ≡ x.due = ap (λ (y : Place). y.due) e ∙ ap (λ (y : Reading.Place). y.due) f in
      record {
        low = λ j p. h.low j (omega (arith, i, p));
        high = λ j p. h.high j (omega (arith, i, p));
        small = λ j p. h.small j (omega (arith, i, p));
        unused = λ j p w. h.unused j (omega (arith, i, p)) w;
        near = h.near;
        sizes = h.sizes;
        built = λ p. u ∙ h.built (d (omega (arith, v, p)));
      }

  -- One invocation more, of instance n at offset k.
  module _ (n k : ℕ) (n-range : n < 32) (k-range : k < 1024) where
    low_more : (m o : ℕ) → get_or least m 0 ≤ o → Dec (m ≡ n) → get_or (set least n (min (get_or least n 0) k)) m 0 ≤ o
    low_more m o p (yes e) = rw (e, get_or-set_same least n (min (get_or least n 0) k) 0 (omega (arith, n-range, h.sizes.3))) (omega (arith, (rw e at p)))
    low_more m o p (no d) = rw (get_or-set_other least n m (min (get_or least n 0) k) 0 d) p

    high_more : (m o : ℕ) → o ≤ get_or greatest m 0 → Dec (m ≡ n) → o ≤ get_or (set greatest n (max (get_or greatest n 0) k)) m 0
    high_more m o p (yes e) = rw (e, get_or-set_same greatest n (max (get_or greatest n 0) k) 0 (omega (arith, n-range, h.sizes.4))) (omega (arith, (rw e at p)))
    high_more m o p (no d) = rw (get_or-set_other greatest n m (max (get_or greatest n 0) k) 0 d) p

    pub noted_invocation : (q : Reader) (x : Reading.Place) (j f : ℕ) → seen q.place ≡ x → x.invocations ≡ r.place.invocations + 1 → x.built ≡ r.place.built → r.place.built ≡ true → j ≡ r.place.invocations → j < 64 → f < 134000000
        → Noted q (set instances j n) (set offsets j k) (set firsts j f) (set least n (min (get_or least n 0) k)) (set greatest n (max (get_or greatest n 0) k))
    noted_invocation q x j f w a b t ej room near =
        let i : q.place.invocations ≡ j + 1 = omega (arith, ap (λ (y : Reading.Place). y.invocations) w, a, ej) in
        let u : q.place.built ≡ true = ap (λ (y : Reading.Place). y.built) w ∙ b ∙ t in
        record {
          low = λ m p. low_at m (omega (arith, p, i)) (ℕ_discrete m j);
          high = λ m p. high_at m (omega (arith, p, i)) (ℕ_discrete m j);
          small = λ m p. small_at m (omega (arith, p, i)) (ℕ_discrete m j);
          unused = λ m p v. rw (get_or-set_other instances j m n 0 (λ z. absurd (omega (arith, z, p, i)))) (h.unused m (omega (arith, p, i, ej)) v);
          near = λ m. near_at m (ℕ_discrete m j);
          sizes = (length-set instances j n ∙ h.sizes.0, length-set offsets j k ∙ h.sizes.1, length-set firsts j f ∙ h.sizes.2, length-set least n (min (get_or least n 0) k) ∙ h.sizes.3, length-set greatest n (max (get_or greatest n 0) k) ∙ h.sizes.4);
          built = λ p. u;
        }
      where
        low_at : (m : ℕ) → m < j + 1 → Dec (m ≡ j) → get_or (set least n (min (get_or least n 0) k)) (get_or (set instances j n) m 0) 0 ≤ get_or (set offsets j k) m 0
        low_at m p (yes z) =
            rw (z, get_or-set_same instances j n 0 (omega (arith, room, h.sizes.0)), get_or-set_same offsets j k 0 (omega (arith, room, h.sizes.1)), get_or-set_same least n (min (get_or least n 0) k) 0 (omega (arith, n-range, h.sizes.3))) (omega arith)
        low_at m p (no d) =
            rw (get_or-set_other instances j m n 0 d, get_or-set_other offsets j m k 0 d) (low_more (get_or instances m 0) (get_or offsets m 0) (h.low m (omega (arith, p, d, ej))) (ℕ_discrete (get_or instances m 0) n))

        high_at : (m : ℕ) → m < j + 1 → Dec (m ≡ j) → get_or (set offsets j k) m 0 ≤ get_or (set greatest n (max (get_or greatest n 0) k)) (get_or (set instances j n) m 0) 0
        high_at m p (yes z) =
            rw (z, get_or-set_same instances j n 0 (omega (arith, room, h.sizes.0)), get_or-set_same offsets j k 0 (omega (arith, room, h.sizes.1)), get_or-set_same greatest n (max (get_or greatest n 0) k) 0 (omega (arith, n-range, h.sizes.4))) (omega arith)
        high_at m p (no d) =
            rw (get_or-set_other instances j m n 0 d, get_or-set_other offsets j m k 0 d) (high_more (get_or instances m 0) (get_or offsets m 0) (h.high m (omega (arith, p, d, ej))) (ℕ_discrete (get_or instances m 0) n))

        small_at : (m : ℕ) → m < j + 1 → Dec (m ≡ j) → get_or (set offsets j k) m 0 < 1024
        small_at m p (yes z) = rw (z, get_or-set_same offsets j k 0 (omega (arith, room, h.sizes.1))) k-range
        small_at m p (no d) = rw (get_or-set_other offsets j m k 0 d) (h.small m (omega (arith, p, d, ej)))

        near_at : (m : ℕ) → Dec (m ≡ j) → get_or (set firsts j f) m 0 < 134000000
        near_at m (yes z) = rw (z, get_or-set_same firsts j f 0 (omega (arith, room, h.sizes.2))) near
        near_at m (no d) = rw (get_or-set_other firsts j m f 0 d) (h.near m)

-- Before the first invocation.
pub noted_first : (r : Reader) → r.place.invocations ≡ 0 → r.place.due ≡ 0 → Noted r unnamed zeros zeros (replicate 32 65535) (replicate 32 0)
noted_first r a d =
    record {
      low = λ j p. absurd (omega (arith, a, p));
      high = λ j p. absurd (omega (arith, a, p));
      small = λ j p. absurd (omega (arith, a, p));
      unused = λ j p l. rw (get_or-replicate {A = ℕ} 64 j 65535 0 l) (omega arith);
      near = λ j. zero_at j (ltb j 64) refl;
      sizes = (length-replicate {A = ℕ} 64 65535, length-replicate {A = ℕ} 64 0, length-replicate {A = ℕ} 64 0, length-replicate {A = ℕ} 32 65535, length-replicate {A = ℕ} 32 0);
      built = λ p. absurd (omega (arith, d, p));
    }
  where
    zero_at : (j : ℕ) (b : Bool) → ltb j 64 ≡ b → get_or zeros j 0 < 134000000
    zero_at j true e = rw (get_or-replicate {A = ℕ} 64 j 0 0 (ltb-true j 64 e)) (omega arith)
    zero_at j false e = rw (get_or-eq_default zeros 0 {n = j} (omega (arith, ltb-false j 64 e, length-replicate {A = ℕ} 64 0))) (omega arith)
