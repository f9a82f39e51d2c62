-- Rows go with records: after the first row, each record from the first invocation on has one, in the order of the records.
-- Assumes nothing.
use Prim.Native.Nat.{ℕ, zero, suc, ◌+◌, ◌≤◌, ◌<◌}
use mathlib.Core.Path.{◌≡◌, ap}
use native.Mathlib.Omega.{arith}
use native.Mathlib.Decide.{dec_lt}
use lib.ListN.{length}
use Rattle.timeline.specs.Design.{Design, output_count, invocation_count}
use Rattle.timeline.specs.Rules.{Lawful}
use Rattle.entry.specs.Numbers.{invocation_number, connection_number}
use Rattle.groups.proofs.Order.{up_to_last, none_behind}
use Rattle.timetable.specs.Places.{go_place, out_place, row_count}

module _ (D : Design) (c : ℕ) where
  pub from_first : (j : ℕ) → invocation_number D c 0 ≤ invocation_number D c j
  unfolding invocation_number
  from_first zero = omega arith
  from_first (suc j) = let h = from_first j in omega arith

  -- Before the connections there is one invocation more, and it ends before them; at the connections there is none.
  pub one_more : (j : ℕ) → j ≤ invocation_count D c → invocation_number D c j < connection_number D c 0 → j < invocation_count D c
  unfolding connection_number
  one_more j l k = go (dec_lt j (invocation_count D c))
    where
      go : Dec (j < invocation_count D c) → j < invocation_count D c
      go (yes h) = h
      go (no h) =
          let e : j ≡ invocation_count D c = omega arith in
          let q = ap (invocation_number D c) e in
          absurd (omega arith)

  pub next_within : (j : ℕ) → j < invocation_count D c → invocation_number D c (suc j) ≤ connection_number D c 0
  unfolding connection_number
  next_within j l = let h = up_to_last D c (suc j) l in omega arith

  pub no_more : (j : ℕ) → j ≤ invocation_count D c → connection_number D c 0 ≤ invocation_number D c j → j ≡ invocation_count D c
  unfolding connection_number
  no_more j l k = none_behind D c j l (omega arith)

  module _ (lawful : Lawful D) (there : c < length D) where
    pub number_place : (j : ℕ) → j ≤ invocation_count D c → go_place D c j + invocation_number D c 0 ≡ 1 + invocation_number D c j
    unfolding go_place invocation_number
    number_place zero l = omega arith
    number_place (suc j) l =
        let h = number_place j (omega arith) in
        let a = (lawful.whole c there).all_arguments j l in
        omega arith

    pub row_total : row_count D c + invocation_number D c 0 ≡ 1 + connection_number D c 0 + output_count D c
    unfolding row_count out_place connection_number
    row_total = let h = number_place (invocation_count D c) (omega arith) in omega arith
