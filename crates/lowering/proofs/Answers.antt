-- What is answered of a file that has been judged: whether the component can be lowered, and whether there is room.
-- Assumes nothing.
use Prim.Native.Nat.{ℕ, ◌+◌, ◌-◌, ◌*◌, ◌≤◌, ◌<◌}
use mathlib.Core.Bool.{true, false}
use mathlib.Core.Path.{◌≡◌, ap}
use mathlib.Core.List.{List, ◌++◌}
use native.Mathlib.Omega.{arith}
use lib.ListN.{length, drop}
use borrow.Author.Tests.{lt-ltb, le-ltb}
use Rattle.answers.specs.Fault as Fault
use Rattle.answers.specs.Answer.{accepted, refused, refusal}
use Rattle.timeline.specs.Design.{Design}
use Rattle.reading.specs.Tests.{is_built}
use Rattle.timetable.specs.Rows.{rows}
use Rattle.timetable.specs.Bytes.{rows_bytes}
use Rattle.groups.specs.Groups.{design_of}
use Rattle.groups.specs.declared.Judged.{Judged}
use Rattle.control.specs.declared.Built.{Built}
use Rattle.control.specs.Stands.{can_lower, all_rows, Stands}
use Rattle.lowering.specs.Answer.{component_rows, over}
use Rattle.lowering.proofs.Parts.{rows_total}
pub use Rattle.control.proofs.Found.{built_class}

pub absent : (D : Design) (c room : ℕ) → can_lower D c ≡ false → component_rows D c room ≡ refused (refusal Fault.Absent c)
unfolding component_rows
absent D c room e = rw e

-- The component that was found is the one asked for: how many rows it has, and what they leave in the lent bytes.
module _ {b : Built} {j : Judged} {c : ℕ} (h : Stands b) (ej : b.judged ≡ j) (ec : b.number ≡ c) where
  abbrev D : Design
  D = design_of j.file.now j.records

  its_rows : all_rows b ≡ rows D c
  its_rows = rw (ej, ec)

  there : can_lower D c ≡ true
  unfolding is_built
  there = rw (← ej, ← ec, lt-ltb b.number (length (design_of b.judged.file.now b.judged.records)) h.there, h.is_built)

  pub short : (room : ℕ) → room < 16 * length (rows D c) → component_rows D c room ≡ refused (refusal Fault.Room 0)
  unfolding component_rows
  short room l = rw (there, lt-ltb room (16 * length (rows D c)) l)

  pub fits : (room : ℕ) → 16 * length (rows D c) ≤ room → component_rows D c room ≡ accepted (rows D c)
  unfolding component_rows
  fits room l = rw (there, le-ltb room (16 * length (rows D c)) l)

  module _ (m : ℕ) (e : m ≡ b.row.outputs) where
    abbrev count : ℕ
    count = 1 + (b.connections - b.invocations) + m

    pub count_is : count ≡ length (rows D c)
    count_is = let t = rows_total h in let k = ap length its_rows in omega arith

    pub rows_written : (ys d : List ℕ) → ys ≡ rows_bytes (all_rows b) → ys ++ drop (16 * count - 0) d ≡ over d (rows D c)
    rows_written ys d y =
        let k = count_is in
        let z : 16 * count - 0 ≡ 16 * length (rows D c) = omega arith in
        rw (y, its_rows, z)
