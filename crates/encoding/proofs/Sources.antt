-- An argument and a connection name their source in the same bytes.
-- Assumes nothing.
use Prim.Native.Nat.{ℕ}
use mathlib.Core.List.{◌∷◌}
use mathlib.Core.Path.{◌≡◌, refl}
use Rattle.timeline.specs.Design.{Source, own, output_of, constant}
use Rattle.records.specs.Encoded.{source_bytes}
use Rattle.encoding.specs.Spelled.{with_source}

pub source_spelled : (kind : ℕ) → (s : Source) → with_source kind s ≡ kind ∷ source_bytes s
source_spelled kind (own i) = refl
source_spelled kind (output_of j o) = refl
source_spelled kind (constant v) = refl
