-- The pulse register: what its states mean, and how it runs. (01, Lowering)
-- Assumes nothing.
use Rattle.std.specs.Prelude.{ℕ, zero, suc, ◌+◌, ◌<◌, Bool, false, ◌≡◌, List, ◌∷◌, take, replicate}

-- "The pulse register has n states; state i is active in a cycle exactly when a start lay i cycles before": in cycle x, on account of start t.
pub record Active (n : ℕ) (S : ℕ → Type 0) (x i t : ℕ) : Type 0 where
  pub below : i < n
  pub started : S t
  pub before : t + i ≡ x

-- It takes a cycle's start bit: each bit moves on by one state, and what leaves the last state is lost.
unfoldable pub next : (n : ℕ) → Bool → List Bool → List Bool
next n b bits = take n (b ∷ bits)

-- Its bits in cycle x, where s has the start bit of each cycle. It is empty at first.
unfoldable pub bits_in : (n : ℕ) → (ℕ → Bool) → ℕ → List Bool
bits_in n s zero = next n (s 0) (replicate n false)
bits_in n s (suc x) = next n (s (suc x)) (bits_in n s x)
