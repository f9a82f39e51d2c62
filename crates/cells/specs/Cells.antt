-- What stands in one cell of a picture: who uses a port, or an instance, in one cycle. (01, Lowering: the timetable; docs/TEXT.md)
-- Assumes nothing.
use Rattle.std.specs.Prelude.{ℕ, zero, suc, ◌+◌, Bool, cond, ◌&&◌, List, Option, None, Some, get_or, ltb, leb, eqb}
use Rattle.parts.specs.declared.Use.{Use}
use Rattle.cells.specs.declared.Cell.{Cell}
use Rattle.cells.specs.declared.Cell.TheVariants.{Free, First, Next, Several}

-- "An interval [s, e) holds cycles s to e−1"; a port's [s, e) becomes [k+s, k+e).
abbrev pub covers : (s e k t : ℕ) → Bool
covers s e k t = leb (k + s) t && ltb t (k + e)

-- A cell that one more wants: alone it has the cell, otherwise they are several.
abbrev pub wanted : Cell → Cell → Cell
wanted Free one = one
wanted (First j) one = Several
wanted (Next j) one = Several
wanted Several one = Several

abbrev pub joined : Bool → Cell → Cell → Cell
joined b one cell = cond b (wanted cell one) cell

-- Invocation j, of this instance if `mine`, at offset k: for the first start, and for the next one, `delay` cycles later.
abbrev pub step : (mine : Bool) → (s e delay t k j : ℕ) → Cell → Cell
step mine s e delay t k j cell =
    joined (mine && covers s e (k + delay) t) (Next j) (joined (mine && covers s e k t) (First j) cell)

-- Invocation j, where there is one.
abbrev pub after : Option Use → (i s e delay t j : ℕ) → Cell → Cell
after None i s e delay t j cell = cell
after (Some u) i s e delay t j cell = step (eqb u.instance i) s e delay t u.offset j cell

-- The first n invocations.
unfoldable pub cell_to : List (Option Use) → (i s e delay t : ℕ) → ℕ → Cell
cell_to uses i s e delay t zero = Free
cell_to uses i s e delay t (suc n) = after (get_or uses n None) i s e delay t n (cell_to uses i s e delay t n)
