-- What may be asked of notes, and what is then written.
-- Assumes nothing.
use Rattle.std.specs.Prelude.{ℕ, ◌+◌, ◌*◌, ◌^◌, ◌≤◌, ◌<◌, ◌≡◌, List, length}
use Rattle.expansion.specs.declared.Note.{Note}
use Rattle.timeline.specs.Flat.{Row}
use Rattle.expansion.specs.Bytes.{rows_bytes, pasted}
use Rattle.expansion.specs.Notes.{note_component, first_note, listed, listed_from}

-- The notes of the components below k stand one component after the other, and each is of a lower component.
pub record Sound (noted : List Note) (ends : List ℕ) (k : ℕ) : Type 0 where
  pub rising : (c : ℕ) → c < k → first_note ends c ≤ first_note ends (c + 1)
  pub within : (c : ℕ) → c < k → first_note ends (c + 1) ≤ 3968
  pub lower : (c : ℕ) → c < k → (e : ℕ) → first_note ends c ≤ e → e < first_note ends (c + 1) → note_component noted e < c

-- Component c can be expanded, begun in cycle t, its units numbered from u: each level adds less than 65,536 to both.
pub record Expands (noted : List Note) (ends : List ℕ) (c t u : ℕ) : Type 0 where
  pub sound : Sound noted ends (c + 1)
  pub few : c < 64
  pub cycles : t + 65536 * c < 2 ^ 32
  pub units : u + 65536 * c < 2 ^ 32

-- And there is room for its rows from place `at` on, among the bytes of 4,096 rows.
pub record Asked (noted : List Note) (ends : List ℕ) (c t u at : ℕ) (out : List ℕ) : Type 0 where
  pub expands : Expands noted ends c t u
  pub room : at + 8 * length (listed noted ends c t u) ≤ 32768
  pub long : length out ≡ 32768

-- The same of its notes from e on.
pub record AskedFrom (noted : List Note) (ends : List ℕ) (c e t u at : ℕ) (out : List ℕ) : Type 0 where
  pub expands : Expands noted ends c t u
  pub from : first_note ends c ≤ e
  pub upto : e ≤ first_note ends (c + 1)
  pub room : at + 8 * length (listed_from noted ends c e t u) ≤ 32768
  pub long : length out ≡ 32768

-- The rows stand from place `at` on, and `next` is the place behind them.
pub record Wrote (rows : List Row) (at next : ℕ) (old new : List ℕ) : Type 0 where
  pub behind : next ≡ at + 8 * length rows
  pub bytes : new ≡ pasted old at (rows_bytes rows)
