-- The rows of one invocation, as the file's ports give them, and the latest end of ports. (01, Lowering)
-- Assumes nothing.
use Rattle.std.specs.Prelude.{ℕ, zero, suc, ◌+◌, ◌-◌, ◌≤◌, ◌<◌, ◌≡◌, max, List, ◌∷◌}
use Rattle.timeline.specs.Rules.{PortRange}
use Rattle.look.specs.Look.{look}
use Rattle.timetable.specs.Lists.{list_below}
use Rattle.timetable.specs.Rows.{Row, register, go, guard, out}
use Rattle.rows.specs.declared.Row as Declared
use Rattle.rows.specs.declared.Row.TheVariants.{Register, Go, Guard, Out}
use Rattle.rows.specs.declared.Use.{Use}

-- The row that is written.
abbrev pub says : Declared.Row → Row
says (Register d n) = register d n
says (Go j n k) = go j n k
says (Guard j i f l r) = guard j i f l r
says (Out o r) = out o r

-- What is made of each number below n is row f of that number.
abbrev pub Makes : (made : ℕ → Declared.Row → Type 0) → (n : ℕ) → (f : ℕ → Row) → Type 0
Makes made n f = (i : ℕ) → (r : Declared.Row) → i < n → made i r → says r ≡ f i

-- The latest end of n ports from record i on, and 0 of none.
unfoldable pub latest : List ℕ → (i n : ℕ) → ℕ
latest file i zero = 0
latest file i (suc n) = max (latest file i n) (look file (i + n)).end

-- How long a component lasts whose component record is number i and which has n ports: to the latest end of a port, and at least 1.
unfoldable pub lasting : List ℕ → (i n : ℕ) → ℕ
lasting file i n = max 1 (latest file (i + 1) n)

-- An invocation: "(2, invocation, instance, k), then for each input (3, invocation, port, k+s, k+e−1, argument's record number)".
-- The ports of the invoked component stand after its component record, and the arguments after the invocation.
module _ (file : List ℕ) (u : Use) where
  abbrev pub guard_row : ℕ → Row
  guard_row i =
      guard u.number i (u.offset + (look file (u.first + 1 + i)).start) (u.offset + (look file (u.first + 1 + i)).end - 1) (u.record + 1 + i)

  unfoldable pub invocation_rows : List Row
  invocation_rows = go u.number u.instance u.offset ∷ list_below u.inputs guard_row

-- "For each own output (4, port, connection's record number)": n outputs, whose connections stand from record r on.
abbrev pub output_row : (o r : ℕ) → Row
output_row o r = out o r

unfoldable pub output_rows : (n r : ℕ) → List Row
output_rows n r = list_below n (λ o. output_row o (r + o))

-- What keeps the numbers of these rows small.
pub record InRange (file : List ℕ) (u : Use) : Type 0 where
  pub number : u.number < 64
  pub offset : u.offset < 1024
  pub few : u.inputs ≤ 16
  pub first : u.first < 3968
  pub own : u.record < 3968
  pub ports : (i : ℕ) → i < u.inputs → PortRange (look file (u.first + 1 + i))
