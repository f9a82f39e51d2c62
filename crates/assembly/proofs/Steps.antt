-- The steps by which a text is read, one byte after the other.
-- Assumes nothing.
use Prim.Native.Nat.{ℕ, zero, suc, ◌+◌, ◌<◌, ◌≤◌}
use mathlib.Core.List.{List, [], ◌∷◌, ◌++◌, append-nil, append_assoc}
use mathlib.Core.Path.{◌≡◌, refl, sym, ap, ◌∙◌}
use native.Mathlib.Omega.{arith}
use native.Mathlib.Numerals.{add-one}
use lib.ListN.{length, get_or, take}
use lib.Dec.{eqb}
use Rattle.std.specs.Prelude.{cond}
use Rattle.text.specs.Words.{next_word}
use borrow.Author.Tests.{eq-eqb, ne_eqb}
use Rattle.assembly.specs.Fed.{Reached, closed, next_line, taken, fed, Grown, Stopped, MayRefuse, said_by}

pub line_end : (r : Reached) (b : ℕ) → b ≡ 10 → taken r b ≡ next_line (closed r)
unfolding taken
line_end r b e = rw (eq-eqb b 10 e)

pub letter_more : (r : Reached) (b : ℕ) → (b ≡ 10 → ⊥) → taken r b ≡ record { line = r.line; present = r.present ++ b ∷ []; bytes = r.bytes }
unfolding taken
letter_more r b n = rw (ne_eqb b 10 n)

pub fed_none : (r : Reached) → r ≡ fed r []
unfolding fed
fed_none r = refl

fed_suc : (r : Reached) (s : List ℕ) (i : ℕ) → i < length s → fed r (take (suc i) s) ≡ taken (fed r (take i s)) (get_or s i 0)
unfolding fed
fed_suc r [] i l = absurd (omega arith)
fed_suc r (b ∷ s) zero l = refl
fed_suc r (b ∷ s) (suc i) l = fed_suc (taken r b) s i (omega arith)

pub fed_more : (r : Reached) (s : List ℕ) (i : ℕ) → i < length s → fed r (take (i + 1) s) ≡ taken (fed r (take i s)) (get_or s i 0)
fed_more r s i l = rw (add-one i) (fed_suc r s i l)

take_all : (s : List ℕ) (i : ℕ) → length s ≤ i → take i s ≡ s
take_all [] zero l = refl
take_all [] (suc i) l = refl
take_all (b ∷ s) zero l = absurd (omega arith)
take_all (b ∷ s) (suc i) l = rw (take_all s i (omega arith))

pub fed_all : (r : Reached) (s : List ℕ) (i : ℕ) → length s ≤ i → fed r (take i s) ≡ fed r s
fed_all r s i l = rw (take_all s i l)

pub stopped_at : (r now : Reached) (s : List ℕ) (i : ℕ) → i < length s → now ≡ fed r (take i s) → MayRefuse now (get_or s i 0) → Stopped r s now
unfolding Stopped
stopped_at r now s i l e m = (i, l, e, m)

-- When a byte may be refused.
pub says_one : (line : List ℕ) → (next_word line 0 ≡ [] → ⊥) → said_by line ≡ 16
says_one line n = go (next_word line 0) n
  where
    go : (w : List ℕ) → (w ≡ [] → ⊥) → ◌≡◌ {A = ℕ} (cond (eqb (length w) 0) 0 16) 16
    go [] n = absurd (n refl)
    go (b ∷ bs) n = rw (ne_eqb (length (b ∷ bs)) 0 (λ e. absurd (omega arith)))

pub line_refused : (r : Reached) (b : ℕ) → b ≡ 10 → said_by r.present ≡ 16 → MayRefuse r b
unfolding MayRefuse
line_refused r b e s = rw (eq-eqb b 10 e) s

pub letter_refused : (r : Reached) (b : ℕ) → (b ≡ 10 → ⊥) → 4096 ≤ length r.present → MayRefuse r b
unfolding MayRefuse
letter_refused r b n l = rw (ne_eqb b 10 n) l

pub grown_none : (xs : List ℕ) → Grown xs xs
unfolding Grown
grown_none xs = ([], sym (append-nil xs))

pub grown_by : (xs ys : List ℕ) → Grown xs (xs ++ ys)
unfolding Grown
grown_by xs ys = (ys, refl)

pub grown_more : (xs ys zs : List ℕ) → Grown xs ys → Grown ys zs → Grown xs zs
unfolding Grown
grown_more xs ys zs p q = (p.0 ++ q.0, q.1 ∙ ap (λ l. l ++ q.0) p.1 ∙ append_assoc xs p.0 q.0)
