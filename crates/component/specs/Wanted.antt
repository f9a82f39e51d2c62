-- The components whose rows are wanted, one after the other: those of the instances ahead, or so many from the first on.
-- Assumes nothing.
use Rattle.std.specs.Prelude.{ℕ, zero, suc, ◌+◌, ◌-◌, ◌*◌, ◌/◌, ◌≤◌, ◌<◌, ◌≡◌, List, [], ◌∷◌, length, get_or, Option, None, Some}
use Rattle.signatures.specs.declared.Signature.{Signature}
use Rattle.signatures.specs.Rows.{zero_row}
use Rattle.reader.specs.Rows.{put_row}
use Rattle.component.specs.declared.Following.{Following}
use Rattle.component.specs.declared.Wanted.{Wanted}
use Rattle.component.specs.Ahead.{ahead}

-- So many components from c on.
unfoldable pub in_order : (left c : ℕ) → List ℕ
in_order zero c = []
in_order (suc left) c = c ∷ in_order left (suc c)

-- What follows component c, whose row goes to this place.
abbrev pub follow : List ℕ → Following → (c place : ℕ) → List ℕ
follow file (Following.Components end) c place = in_order (end - (c + 1)) (c + 1)
follow file (Following.Instances from end) c place = ahead file (end - from) from (place + 1)

abbrev pub later : List ℕ → Wanted → List ℕ
later file w = follow file w.following w.component w.place

abbrev pub wanted : List ℕ → Option Wanted → List ℕ
wanted file None = []
wanted file (Some w) = w.component ∷ later file w

-- The place of the first row that is wanted.
abbrev pub placed : Option Wanted → ℕ
placed None = 0
placed (Some w) = w.place

-- So many components, from the first on.
abbrev pub every_below : ℕ → Option Wanted
every_below zero = None
every_below (suc more) = Some (record { component = 0; place = 0; following = Following.Components (suc more) })

-- The components are below 64, each row of them at its own place, and the records that are looked at lie in the file.
abbrev pub Follows : List ℕ → Following → (c place : ℕ) → Type 0
Follows file (Following.Components end) c place = (place ≡ c) × (end ≤ 64)
Follows file (Following.Instances from end) c place = (from ≤ end) × (end ≤ 3968) × (end ≤ 31 * (length file / 512))

pub record Sound (file : List ℕ) (w : Wanted) : Type 0 where
  pub below : w.component < 64
  pub place : w.place < 64
  pub follows : Follows file w.following w.component w.place

-- Numbers with the rows of these components, from one place on.
unfoldable pub gathered : (rows : List ℕ) → (table : List Signature) → (place : ℕ) → (components : List ℕ) → List ℕ
gathered rows table place [] = rows
gathered rows table place (c ∷ cs) = gathered (put_row rows place (get_or table c zero_row)) table (suc place) cs
