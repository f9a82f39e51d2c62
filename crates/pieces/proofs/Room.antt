-- A text that finds room stands behind the others.
use Rattle.std.proofs.Common.{ℕ, ◌+◌, ◌≤◌, ◌≡◌, List, ◌++◌, length, arith}
use Rattle.std.proofs.lemmas.Bool.Decides.{nat_tests}
use Rattle.pieces.specs.Gathered.{behind}

pub fits : (held text : List ℕ) → length held + length text ≤ 4096 → behind held text ≡ held ++ text
fits held text room = grind (arith, nat_tests)
