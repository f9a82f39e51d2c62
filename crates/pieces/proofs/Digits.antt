-- A number's decimal digits, one behind another.
use Rattle.std.proofs.Common.{ℕ, ◌+◌, ◌/◌, ◌%◌, ◌^◌, ◌<◌, ◌≤◌, ◌≡◌, List, [], ◌∷◌, ◌++◌, length, decimal, append_assoc, length-append, arith}
use Rattle.std.proofs.lemmas.Bool.Decides.{nat_tests}
use Rattle.std.proofs.lemmas.Fmt.{decimal_digit, decimal_step, length-decimal-le}
use Rattle.pieces.specs.Gathered.{behind}

-- One byte finds room.
one : (held : List ℕ) (c : ℕ) → length held < 4096 → behind held (c ∷ []) ≡ held ++ (c ∷ [])
one held c room = grind (arith, nat_tests)

-- The first digit.
pub first : (old : List ℕ) (n : ℕ) → n < 10 → length old + 5 ≤ 4096 → behind old ((48 + n % 10) ∷ []) ≡ old ++ decimal n
first old n small room = grind (arith, one, decimal_digit)

-- One digit more.
pub more : (old : List ℕ) (m n : ℕ) → m ≡ n / 10 → 10 ≤ n → n < 2 ^ 16 → length old + 5 ≤ 4096 → behind (old ++ decimal m) ((48 + n % 10) ∷ []) ≡ old ++ decimal n
more old m n e large small room =
    let short = length-decimal-le 4 m (omega arith) (omega arith) (omega arith) in
    let whole = decimal_step n large (omega arith) in
    grind (arith, one, length-append {A = ℕ}, append_assoc {A = ℕ})
