-- What rows drive, whoever wrote them and in whatever order: the guards over the states of the pulse register.
-- The rows name records of the list rs by their numbers.
-- Assumes nothing.
use Rattle.std.specs.Prelude.{ℕ, ◌≤◌, ◌≡◌, List, get_or}
use Rattle.timeline.specs.Design.{Source}
use Rattle.entry.specs.Records.{Record, wrong, part, argument, connection}
use Rattle.timetable.specs.Lists.{Has}
use Rattle.timetable.specs.Rows.{Row, register, go, guard, out}
use Rattle.timetable.specs.Register.{Active}

-- State i is active in cycle x, on account of start t, in a register of as many states as a row says.
pub record StateActive (rows : List Row) (S : ℕ → Type 0) (x i t : ℕ) : Type 0 where
  pub delay : ℕ
  pub states : ℕ
  pub row : Has rows (register delay states)
  pub active : Active states S x i t

-- In cycle x input i of instance n is driven by source s, the argument in record r, on account of invocation j and start t:
-- a state from the guard's first to its last is active, and the invocation's row names the instance.
pub record RowsDrive (rows : List Row) (rs : List Record) (S : ℕ → Type 0) (x n i : ℕ) (s : Source) (r j t : ℕ) : Type 0 where
  pub state : ℕ
  pub first : ℕ
  pub last : ℕ
  pub begin : ℕ
  pub active : StateActive rows S x state t
  pub guard_row : Has rows (guard j i first last r)
  pub from : first ≤ state
  pub upto : state ≤ last
  pub go_row : Has rows (go j n begin)
  pub read : get_or rs r wrong ≡ part (argument s)

-- At most one invocation of one start drives an input of an instance in a cycle.
abbrev pub OneDriver : List Row → List Record → (ℕ → Type 0) → Type 0
OneDriver rows rs S =
    (x n i : ℕ) (s s' : Source) (r r' j j' t t' : ℕ) → RowsDrive rows rs S x n i s r j t → RowsDrive rows rs S x n i s' r' j' t'
    → (s ≡ s') × (r ≡ r') × (j ≡ j') × (t ≡ t')

-- In cycle x instance n is started by invocation j, on account of start t.
pub record RowsStart (rows : List Row) (S : ℕ → Type 0) (x n j t : ℕ) : Type 0 where
  pub state : ℕ
  pub active : StateActive rows S x state t
  pub go_row : Has rows (go j n state)

-- Own output o has source s, the connection in record r. "Outputs carry no guard": in every cycle.
pub record RowsConnect (rows : List Row) (rs : List Record) (o : ℕ) (s : Source) (r : ℕ) : Type 0 where
  pub out_row : Has rows (out o r)
  pub read : get_or rs r wrong ≡ part (connection s)
