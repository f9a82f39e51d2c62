-- The tests of an invocation against each one before: what the bounds of the offsets tell, and what one pair tells.
-- Assumes nothing.
use Rattle.std.specs.Prelude.{ℕ, zero, suc, ◌+◌, ◌-◌, ◌≤◌, ◌<◌, min, ◌≡◌, refl, Bool, true, false, ◌&&◌, ◌||◌, List, get_or, leb, ltb}
use Rattle.std.proofs.Common.{◌⊎◌, inl, inr, add-one, arith}
use Rattle.std.proofs.Math.Bool.{or-true, and-true}
use Rattle.std.proofs.lemmas.Bool.{le-leb}
use Rattle.std.proofs.lemmas.Bool.Decides.{leb_tells, eqb_tells}
use Rattle.reading.specs.Tests.{every_below}
use Rattle.reading.specs.Reader.{stands_apart, within_span}
use Rattle.rules.specs.Calls.{no_look, calls}
use Rattle.rules.specs.Known.{Known}
use Rattle.rules.specs.Each.{of_instance}
use borrow.Author.Tests.{leb-true, leb-false, ltb-true, ltb-false, eqb-true, lt-ltb, le-ltb, lt-leb, ne_eqb}
use lib.Dec.{eqb}
use native.Mathlib.Nat.{add-zero}
use mathlib.Core.Bool.{not}

-- Tests that agree at every place.
pub every_as : (s t : ℕ → Bool) (n : ℕ) → ((j : ℕ) → j < n → s j ≡ t j) → every_below s n ≡ every_below t n
unfolding every_below
every_as s t zero h = refl
every_as s t (suc n) h = rw (every_as s t n (λ j l. h j (omega (arith, l))), h n (omega arith)) refl

every_true : (t : ℕ → Bool) (n : ℕ) → ((j : ℕ) → j < n → t j ≡ true) → every_below t n ≡ true
unfolding every_below
every_true t zero h = refl
every_true t (suc n) h = rw (every_true t n (λ j l. h j (omega (arith, l))), h n (omega arith)) refl

every_more : (t : ℕ → Bool) (n m : ℕ) → ((j : ℕ) → n ≤ j → j < n + m → t j ≡ true) → every_below t (n + m) ≡ every_below t n
unfolding every_below
every_more t n zero h = let e : n + 0 ≡ n = omega arith in rw e refl
every_more t n (suc m) h =
    let e : n + suc m ≡ suc (n + m) = omega arith in
    rw (e, every_more t n m (λ j l u. h j l (omega (arith, u))), h (n + m) (omega arith) (omega arith)) (and-true (every_below t n))

-- One place more.
pub one_more : (t : ℕ → Bool) (n : ℕ) (kept more : Bool) → kept ≡ every_below t n → more ≡ t n → kept && more ≡ every_below t (n + 1)
unfolding every_below
one_more t n kept more e f = rw (add-one, e, f) refl

-- The two sides of a pair, without a sum.
near_test : (o k d : ℕ) → ltb o ((k + 1) - d) ≡ leb (o + d) k
near_test o k d = grind (arith, leb_tells)

far_test : (o s : ℕ) → o < 65535 → leb (min s 65535) o ≡ leb s o
far_test o s p = grind (arith, leb_tells)

-- What holds of the offsets of one instance's invocations holds at every place.
each_true : (instance offset : List ℕ) (n j : ℕ) (t : ℕ → Bool) → (get_or instance j 0 ≡ n → t (get_or offset j 0) ≡ true) → of_instance instance offset n t j ≡ true
each_true instance offset n j t h = grind (arith, eqb_tells)

each_as : (instance offset : List ℕ) (n j : ℕ) (s t : ℕ → Bool) → (get_or instance j 0 ≡ n → s (get_or offset j 0) ≡ t (get_or offset j 0)) → of_instance instance offset n s j ≡ of_instance instance offset n t j
each_as instance offset n j s t h = grind (arith, eqb_tells)

module _ (instance offset : List ℕ) (count n least greatest : ℕ) (known : Known instance offset count n least greatest) where
  -- The places behind name another instance.
  pub all_places : (t : ℕ → Bool) → count ≤ 64 → every_below (of_instance instance offset n t) 64 ≡ every_below (of_instance instance offset n t) count
  all_places t l =
      let e : 64 ≡ count + (64 - count) = omega (arith, l) in
      rw e (every_more (of_instance instance offset n t) count (64 - count) (λ j m u. each_true instance offset n j t (λ i. absurd (known.unused j m (omega (arith, u, l)) i))))

  module _ (k d : ℕ) where
    pub pair_same : (near far j : ℕ) → near ≡ (k + 1) - d → far ≡ min (k + d) 65535 → j < 64
        → of_instance instance offset n (λ o. ltb o near || leb far o) j ≡ stands_apart no_look (calls 0 count 0 instance offset) n k d j
    pair_same near far j a b l =
        each_as instance offset n j (λ o. ltb o near || leb far o) (λ o. leb (o + d) k || leb (k + d) o) (λ i. rw (a, b, near_test (get_or offset j 0) k d, far_test (get_or offset j 0) (k + d) (small (leb_tells (suc j) count) i)) refl)
      where
        small : ((ltb j count ≡ true) × (j < count)) ⊎ ((ltb j count ≡ false) × (count < suc j)) → get_or instance j 0 ≡ n → get_or offset j 0 < 65535
        small (inl w) i = known.small j w.1
        small (inr w) i = absurd (known.unused j (omega (arith, w.1)) l i)

    pub before_all : k + d ≤ least → every_below (stands_apart no_look (calls 0 count 0 instance offset) n k d) count ≡ true
    before_all p =
        every_true _ count (λ j l. each_true instance offset n j (λ o. leb (o + d) k || leb (k + d) o) (λ i. rw (le-leb (k + d) (get_or offset j 0) (omega (arith, p, known.low j l i))) (or-true _)))

    pub after_all : greatest + d ≤ k → every_below (stands_apart no_look (calls 0 count 0 instance offset) n k d) count ≡ true
    after_all p =
        every_true _ count (λ j l. each_true instance offset n j (λ o. leb (o + d) k || leb (k + d) o) (λ i. rw (le-leb (get_or offset j 0 + d) k (omega (arith, p, known.high j l i))) refl))

    pub all_within : (delay : ℕ) → k + d ≤ least + delay → greatest + d ≤ k + delay → every_below (within_span no_look (calls 0 count delay instance offset) n k d) count ≡ true
    all_within delay p q =
        every_true _ count (λ j l. each_true instance offset n j (λ o. leb (k + d) (o + delay) && leb (o + d) (k + delay)) (λ i. rw (le-leb (k + d) (get_or offset j 0 + delay) (omega (arith, p, known.low j l i)), le-leb (get_or offset j 0 + d) (k + delay) (omega (arith, q, known.high j l i))) refl))

-- Two tests that both hold.
pub both_true : (a b : Bool) → a && b ≡ true → (a ≡ true) × (b ≡ true)
both_true true b e = (refl, e)
both_true false b e = absurd (false_true e)
  where
    false_true : false ≡ true → ⊥
    false_true z = let w : ◌≡◌ {A = ℕ} 0 1 = cc in omega arith
