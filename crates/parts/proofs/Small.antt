-- What lies behind a component's record is no longer than a list, and so is what it has of it.
use Rattle.std.proofs.Common.{ℕ, ◌≤◌, List, length, Some, None, arith}
use Rattle.std.specs.Prelude.{Option, position}
use lib.ListN.{length-take}
use Rattle.parts.specs.declared.kind.Kind.{Kind}
use Rattle.parts.specs.declared.Component.{Component}
use Rattle.parts.specs.Parts.{is_of, up_to}
use Rattle.parts.specs.Shown.{shown}

shorter : (o : Option ℕ) (l : List (List ℕ)) → length (up_to o l) ≤ length l
shorter None l = omega arith
shorter (Some n) l = simp length-take (omega arith)

pub body_small : (C : Component) → length (shown C).body ≤ 3968
body_small C =
    let b = C.behind_small in
    let s = shorter (position (is_of Kind.Component) C.behind.now) C.behind.now in
    omega arith
