-- What reading the records of one component answers.
-- Assumes nothing.
use Rattle.std.specs.Prelude.{ℕ, zero, suc, ◌+◌, ◌-◌, ◌≤◌, ◌<◌, ◌≡◌, List, length, get_or, Option, None, Some, Result, Ok, Err}
use Rattle.answers.specs.declared.Refusal.{Refusal}
use Rattle.answers.specs.Fault.{number}
use Rattle.answers.specs.Answer.{accepted, refused, refusal}
use Rattle.timeline.specs.Design.{Class}
use Rattle.reading.specs.Changed.{changed}
use Rattle.reading.specs.Reader.{Row}
use Rattle.reader.specs.Rows.{row, none, row_in}
use Rattle.reader.specs.State.{State, fresh, before, begin, own_row}
use Rattle.signatures.specs.declared.Signature.{Signature}
use Rattle.component.specs.declared.Progress.{Progress}
use Rattle.component.specs.declared.Ended.{Ended}
use Rattle.component.specs.Run.{Run, reads, after, rest, last, Onward}
use Rattle.component.specs.Ahead.{ahead}

-- Before record `at` with so many components begun: no record has been read, or the last of them has just begun.
abbrev pub Begun : (at count : ℕ) → State → Type 0
Begun zero count s = (count ≡ 0) × (s ≡ before)
Begun (suc p) count s = (k : Class) × (d : ℕ) × (c : ℕ) × (count ≡ c + 1) × (c < 64) × (d < 65536) × (s ≡ begin k d p c)

abbrev pub Begins : Progress → Type 0
Begins q = Begun q.at q.count (fresh q.reader)

-- The rows with that of the last of so many components.
abbrev pub with_row : (count : ℕ) → (ℕ → Row) → Row → ℕ → Row
with_row zero rows w = none
with_row (suc c) rows w = changed rows c w

abbrev pub run : (ℕ → Row) → Progress → Run
run rows q = after q.at rows (fresh q.reader)

module _ (file : List ℕ) (n : ℕ) where
  -- The rows held are those of the components that the instances ahead are made of, of those before the component that is read.
  abbrev pub HoldsRows : (ℕ → Row) → (at number : ℕ) → (held : List ℕ) → Type 0
  HoldsRows rows at number held =
      (m : ℕ) → m < length (ahead file (n - at) at 0) → get_or (ahead file (n - at) at 0) m 0 < number → row_in held m ≡ rows (get_or (ahead file (n - at) at 0) m 0)

  -- The next component has begun. w: the row of the one that has been read.
  pub record Goes (rows : ℕ → Row) (q : Progress) (w : Signature) (p : Progress) : Type 0 where
    pub later : q.at < p.at
    pub within : p.at ≤ n
    pub begins : Begins p
    pub count : p.count ≡ q.count + 1
    pub onward : Onward file n (run rows q) q.at (run (with_row q.count rows (row w)) p) p.at

  -- All the records are read, the last component's with this row at this place.
  pub record Whole (rows : ℕ → Row) (q : Progress) (place : ℕ) (w : Signature) : Type 0 where
    pub final : State
    pub leads : last file n (run rows q) q.at ≡ reads rows final
    pub number : final.number ≡ place
    pub row : own_row final ≡ row w

  pub record Stops (rows : ℕ → Row) (q : Progress) (place : ℕ) (w : Signature) : Type 0 where
    pub accepts : rest file n (run rows q) q.at ≡ accepted (record { components = q.count; records = n })
    pub count : q.count ≡ place + 1
    pub whole : Whole rows q place w

  -- How a component that has been read ends.
  abbrev pub Ends : (ℕ → Row) → Progress → (place : ℕ) → Signature → Option Progress → Type 0
  Ends rows q place w None = Stops rows q place w
  Ends rows q place w (Some p) = Goes rows q w p

  abbrev pub Read : (ℕ → Row) → Progress → Result Ended Refusal → Type 0
  Read rows q (Ok e) = Ends rows q e.place e.row e.next
  Read rows q (Err r) = rest file n (run rows q) q.at ≡ refused (refusal (number r.fault) r.position)
