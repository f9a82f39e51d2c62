-- The hardware that the rows of every unit below a top say: which unit is started when, and what the wires between units carry.
-- A unit is a path of instances, as in timeline's Wires. `RowsBegin` and `RowsCarry` name no use, and find arguments and connections by the rows alone.
-- Assumes nothing.
use Rattle.std.specs.Prelude.{ℕ, ◌+◌, ◌≡◌, List, [], ◌∷◌}
use Rattle.timeline.specs.Design.{Design, Source, own, output_of, constant, leaf, built, class, invocation_count}
use Rattle.timeline.specs.Rules.{There}
use Rattle.timeline.specs.Paths.{by_instances, PathOn}
use Rattle.timeline.specs.Uses.{PathOf, unit, after}
use Rattle.timeline.specs.Wires.{Pin, constant_pin, input_pin, output_pin, component_of}
use Rattle.entry.specs.Records.{Record}
use Rattle.timetable.specs.Lists.{Has}
use Rattle.timetable.specs.Rows.{Row, go, rows}
use Rattle.timetable.specs.Drives.{RowsDrive, RowsStart, RowsConnect}

module _ (D : Design) (top : ℕ) where
  -- The rows of the unit u are those of its component.
  abbrev pub unit_rows : List ℕ → List Row
  unit_rows u = rows D (component_of D top u)

  -- The unit is one of the top's, and the source is there in its component.
  abbrev pub UnitThere : List ℕ → Type 0
  UnitThere u = PathOn (by_instances D) top u

  abbrev pub SourceThere : List ℕ → Source → Type 0
  SourceThere u s = There D (component_of D top u) (invocation_count D (component_of D top u)) s

module _ (D : Design) (top : ℕ) (S : ℕ → Type 0) where
  -- In cycle x the unit u is started: the top by its starts, any other unit by the rows of the unit around it.
  abbrev pub RowsBegin : List ℕ → ℕ → Type 0
  RowsBegin [] x = S x
  RowsBegin (n ∷ u) x = (j : ℕ) × (t : ℕ) × RowsStart (unit_rows D top u) (RowsBegin u) x n j t

  -- In cycle x the unit u is started by a use of it, as demand 3 has it.
  pub record UseBegins (u : List ℕ) (x : ℕ) : Type 0 where
    pub start : ℕ
    pub started : S start
    pub path : List ℕ
    pub is_path : PathOf D top path
    pub unit_is : unit D top path ≡ u
    pub when : start + after D top path ≡ x

  module _ (rs : List Record) (x : ℕ) where
    -- In cycle x source s of unit u carries what pin w does. An output carries what that of the instance does which the invocation's row names;
    -- an own input what the source does that the rows of the unit around drive it with.
    pub data RowsCarry : List ℕ → Source → Pin → Type 0 where
      by_constant : {u : List ℕ} {v : ℕ} → RowsCarry u (constant v) (constant_pin v)
      by_top : {i : ℕ} → RowsCarry [] (own i) (input_pin i)
      by_leaf : {u : List ℕ} {j o : ℕ} (n k : ℕ) → Has (unit_rows D top u) (go j n k) → class D (component_of D top (n ∷ u)) ≡ leaf
          → RowsCarry u (output_of j o) (output_pin (n ∷ u) o)
      by_connection : {u : List ℕ} {j o : ℕ} {w : Pin} (n k r : ℕ) (s : Source) → Has (unit_rows D top u) (go j n k)
          → class D (component_of D top (n ∷ u)) ≡ built → RowsConnect (unit_rows D top (n ∷ u)) rs o s r → RowsCarry (n ∷ u) s w
          → RowsCarry u (output_of j o) w
      by_argument : {u : List ℕ} {n i : ℕ} {w : Pin} (r j t : ℕ) (s : Source) → RowsDrive (unit_rows D top u) rs (RowsBegin u) x n i s r j t
          → RowsCarry u s w → RowsCarry (n ∷ u) (own i) w
