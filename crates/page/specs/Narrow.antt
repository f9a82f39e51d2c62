-- What sixteen bits hold of a picture: its delay and cycles, and the instance that a line is of.
-- Assumes nothing.
use Rattle.std.specs.Prelude.{◌≤◌, ⊤}
use Rattle.page.specs.declared.View.{View}
use Rattle.page.specs.declared.label.Label.{Label}
use Rattle.page.specs.declared.label.Label.TheVariants.{Own, Busy, Of, Unnamed, Unused}

abbrev pub Narrow : View → Type 0
Narrow v = (v.delay ≤ 65535) × (v.cycles ≤ 65535)

abbrev pub Numbered : Label → Type 0
Numbered (Own _ _) = ⊤
Numbered (Busy i) = i ≤ 65535
Numbered (Of i _ _) = i ≤ 65535
Numbered (Unnamed i) = i ≤ 65535
Numbered (Unused i) = i ≤ 65535
