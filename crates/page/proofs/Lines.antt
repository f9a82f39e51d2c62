-- Of a number that sixteen bits hold, a line more is the next number or the last one.
use Rattle.std.proofs.Common.{ℕ, ◌≤◌, ◌≡◌, arith}
use Rattle.std.specs.Prelude.{suc, min}
use Rattle.std.proofs.lemmas.Bool.Decides.{nat_tests}
use Rattle.page.specs.Page.{one_line_more}

pub sixteen_bits : (lines : ℕ) → lines ≤ 65535 → one_line_more lines ≡ min (suc lines) 65535
sixteen_bits lines small = grind (arith, nat_tests)
