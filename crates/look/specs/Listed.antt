-- The records of a file, as bytes and as what they say.
-- Assumes nothing.
use Rattle.std.specs.Prelude.{ℕ, zero, suc, List, [], ◌∷◌, map}
use Rattle.entry.specs.Records.{Record}
use Rattle.records.specs.Decoded.{decoded}
use Rattle.look.specs.Look.{sixteen}

-- The records of a file as bytes, n of them from number i on.
unfoldable pub sixteens : List ℕ → (i n : ℕ) → List (List ℕ)
sixteens file i zero = []
sixteens file i (suc n) = sixteen file i ∷ sixteens file (suc i) n

-- What the first n records of a file say.
abbrev pub records_of : List ℕ → (n : ℕ) → List Record
records_of file n = map decoded (sixteens file 0 n)
