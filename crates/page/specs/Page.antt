-- What is known of a page without what it prints: the mark of a cell, and how many lines stand on it.
-- Assumes nothing.
use Rattle.std.specs.Prelude.{ℕ, suc, cond, nat_lt}
use Rattle.page.specs.declared.glyph.Glyph.{Glyph}
use Rattle.page.specs.declared.glyph.Glyph.TheVariants.{Free, Number, Own, Several}
use Rattle.page.specs.declared.glyph.Mark.{Mark}
use Rattle.page.specs.declared.glyph.Mark.TheVariants.{None}

-- A cell that no one or that several use has no mark.
abbrev pub mark_of : Glyph → Mark
mark_of Free = None
mark_of (Number j mark) = mark
mark_of (Own mark) = mark
mark_of Several = None

-- A line more; the count stays at the last number that two bytes hold.
abbrev pub one_line_more : ℕ → ℕ
one_line_more lines = cond (nat_lt lines 65535) (suc lines) lines
