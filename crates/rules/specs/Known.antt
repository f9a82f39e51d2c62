-- What bounds the offsets of one instance's invocations.
-- Assumes nothing.
use Rattle.std.specs.Prelude.{ℕ, ◌≤◌, ◌<◌, ◌≡◌, List, ◌≢◌, get_or}

-- Of instance n among the first `count` invocations; the places behind them name another.
pub record Known (instance offset : List ℕ) (count n least greatest : ℕ) : Type 0 where
  pub low : (j : ℕ) → j < count → get_or instance j 0 ≡ n → least ≤ get_or offset j 0
  pub high : (j : ℕ) → j < count → get_or instance j 0 ≡ n → get_or offset j 0 ≤ greatest
  pub small : (j : ℕ) → j < count → get_or offset j 0 < 65535
  pub unused : (j : ℕ) → count ≤ j → j < 64 → get_or instance j 0 ≢ n
