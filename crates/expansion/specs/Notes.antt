-- Notes: for each component those of its invocations that have rows, in order. What notes say, and the rows that they list.
-- Assumes nothing.
use Rattle.std.specs.Prelude.{ℕ, zero, suc, ◌+◌, ◌-◌, cond, List, [], ◌∷◌, ◌++◌, get_or, set, ltb}
use Rattle.timeline.specs.Flat.{Row}
use Rattle.expansion.specs.declared.Note.{Note}

-- What is read where nothing is noted.
abbrev pub no_note : Note
no_note = record { component = 0; offset = 0; units = 0 }

unfoldable pub note_at : (noted : List Note) (e : ℕ) → Note
note_at noted e = get_or noted e no_note

-- Note e is three numbers: the invoked component, the offset, and the units of the instances before.
module _ (noted : List Note) (e : ℕ) where
  abbrev pub note_component : ℕ
  note_component = (note_at noted e).component

  abbrev pub note_offset : ℕ
  note_offset = (note_at noted e).offset

  abbrev pub note_units : ℕ
  note_units = (note_at noted e).units

unfoldable pub put_note : (noted : List Note) (e : ℕ) (note : Note) → List Note
put_note noted e note = set noted e note

-- The notes of component c begin here; they end where those of the next component begin.
unfoldable pub first_note : (ends : List ℕ) → (c : ℕ) → ℕ
first_note ends c = get_or ends c 0

-- f e ++ f (e + 1) ++ .., n of them
unfoldable pub join_from : {A : Type 0} → (n e : ℕ) → (ℕ → List A) → List A
join_from zero e f = []
join_from (suc n) e f = f e ++ join_from n (e + 1) f

module _ (noted : List Note) (ends : List ℕ) where
  -- The rows of component c, begun in cycle t, its units numbered from u: one where it has no note, else those of its notes in order.
  -- The depth bounds the levels; any above c gives the same.
  unfoldable pub listed_to : (depth c t u : ℕ) → List Row
  listed_to zero c t u = []
  listed_to (suc f) c t u =
      cond
      (ltb (first_note ends c) (first_note ends (c + 1)))
      (join_from (first_note ends (c + 1) - first_note ends c) (first_note ends c) (λ e. listed_to f (note_component noted e) (t + note_offset noted e) (u + note_units noted e)))
      (record { cycle = t; unit = u; component = c } ∷ [])

  unfoldable pub listed : (c t u : ℕ) → List Row
  listed c t u = listed_to (suc c) c t u

  -- The rows of the notes of component c from note e on.
  unfoldable pub listed_from : (c e t u : ℕ) → List Row
  listed_from c e t u = join_from (first_note ends (c + 1) - e) e (λ e. listed_to c (note_component noted e) (t + note_offset noted e) (u + note_units noted e))
