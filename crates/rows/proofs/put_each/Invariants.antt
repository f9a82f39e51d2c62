-- The rows so far, and behind them the lent bytes as they were.
use Rattle.std.proofs.Common.{◌≡◌, ℕ, ◌*◌, ◌++◌, drop}
use Rattle.timetable.specs.Lists.{list_below}
use Rattle.timetable.specs.Rows.{Row}
use Rattle.timetable.specs.Bytes.{rows_bytes}
use Rattle.rows.specs.Rows.{Makes}
use Rattle.rows.proofs.put_each.Given as goal

abbrev pub invariant-loop-i : goal.invariant-loop-i
invariant-loop-i g l = (f : ℕ → Row) → Makes (λ i r. g.F.Fn.post l.row (i, tt) r) l.n f → l.out ≡ rows_bytes (list_below l.i f) ++ drop (16 * l.i) l.initial.out
