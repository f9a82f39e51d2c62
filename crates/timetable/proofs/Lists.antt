-- What stands in a list by number, and what its greatest is.
-- Assumes nothing.
use Rattle.std.specs.Prelude.{ℕ, zero, suc, ◌≤◌, ◌<◌, ◌≡◌, refl, List, [], ◌∷◌, ◌++◌, length, get_or}
use Rattle.std.proofs.Common.{sym, ⊎_elim, length-append, arith}
use mathlib.Core.List.Memᴰ
use Rattle.std.proofs.Math.Nat.{le-max_left, le-max_right, max-le}
use Rattle.std.proofs.Math.Decide.{ℕ_discrete}
use Rattle.timeline.specs.Flat.{join_below}
use Rattle.timetable.specs.Lists.{Has, list_below, greatest}

-- What stands in a join stands in one of its parts, and the other way round.
pub in_join : {A : Type 0} {a : A} (n : ℕ) (F : ℕ → List A) → Has (join_below n F) a → (j : ℕ) × (j < n) × Has (F j) a
in_join zero F m = absurd (Memᴰ.not-nil m)
in_join {a = a} (suc n) F m =
    ⊎_elim (λ (k : Has (join_below n F) a). let r : (j : ℕ) × (j < n) × Has (F j) a = in_join n F k in (r.0, omega (arith, r.1), r.2)) (λ k. (n, omega arith, k)) (Memᴰ.append_cases (join_below n F) m)

pub to_join : {A : Type 0} {a : A} (n : ℕ) (F : ℕ → List A) (j : ℕ) → j < n → Has (F j) a → Has (join_below n F) a
to_join zero F j l m = absurd (omega arith)
to_join {a = a} (suc n) F j l m = go (ℕ_discrete j n) (λ k. to_join n F j k m)
  where
    go : Dec (j ≡ n) → (j < n → Has (join_below n F) a) → Has (join_below n F ++ F n) a
    go (yes e) r = Memᴰ.append_right (join_below n F) (rw e at m)
    go (no d) r = Memᴰ.append_left (F n) (r (omega arith))

pub in_list : {A : Type 0} {a : A} (n : ℕ) (f : ℕ → A) → Has (list_below n f) a → (i : ℕ) × (i < n) × (a ≡ f i)
in_list n f m = let r = in_join n (λ i. f i ∷ []) m in (r.0, r.1, Memᴰ.eq_of_singleton r.2)

pub to_list : {A : Type 0} {a : A} (n : ℕ) (f : ℕ → A) (i : ℕ) → i < n → a ≡ f i → Has (list_below n f) a
to_list n f i l e = to_join n (λ k. f k ∷ []) i l (Memᴰ.head e)

pub length_list : {A : Type 0} (n : ℕ) (f : ℕ → A) → length (list_below n f) ≡ n
length_list zero f = refl
length_list (suc n) f =
    let e = length-append (list_below n f) (f n ∷ []) in
    let h = length_list n f in
    omega arith

-- What stands in a list has a number, and what has a number stands in it.
pub at_some : {A : Type 0} {a : A} {xs : List A} (d : A) → Has xs a → (i : ℕ) × (i < length xs) × (get_or xs i d ≡ a)
at_some d (Memᴰ.head e) = (0, omega arith, sym e)
at_some d (Memᴰ.tail m) = let r = at_some d m in (suc r.0, omega (arith, r.1), r.2)

pub has_at : {A : Type 0} (xs : List A) (d : A) (i : ℕ) → i < length xs → Has xs (get_or xs i d)
has_at [] d i l = absurd (omega arith)
has_at (x ∷ xs) d zero l = Memᴰ.head refl
has_at (x ∷ xs) d (suc i) l = Memᴰ.tail (has_at xs d i (omega arith))

-- Each is at most the greatest, and the greatest is the least such number.
pub greatest_above : {e : ℕ} {xs : List ℕ} → Has xs e → e ≤ greatest xs
unfolding greatest
greatest_above {e} (Memᴰ.head {x = x} {xs = xs} q) = let k = le-max_left x (greatest xs) in omega arith
greatest_above {e} (Memᴰ.tail {x = x} {xs = xs} m) =
    let h = greatest_above m in
    let k = le-max_right x (greatest xs) in
    omega arith

pub greatest_least : (n : ℕ) (xs : List ℕ) → ((e : ℕ) → Has xs e → e ≤ n) → greatest xs ≤ n
unfolding greatest
greatest_least n [] h = omega arith
greatest_least n (x ∷ xs) h = max-le (h x (Memᴰ.head refl)) (greatest_least n xs (λ e m. h e (Memᴰ.tail m)))
