-- Records of an accepted list are in range, so that coding them loses nothing.
-- Assumes nothing.
use Prim.Native.Nat.{ℕ, zero, suc, ◌*◌}
use mathlib.Core.Path.{◌≡◌, refl, ap}
use mathlib.Core.List.{List, [], ◌∷◌, map}
use mathlib.Core.Logic.{◌≢◌}
use lib.ListN.{length, take, drop}
use Rattle.entry.specs.Records.{Record, wrong}
use Rattle.entry.specs.Asks.{InRange}
use Rattle.reading.proofs.Ranges.{AllInRange}
use Rattle.numbers.specs.Numbers.{Bytes}
use Rattle.numbers.proofs.Bytes as Bytes
use Rattle.records.specs.Decoded.{decoded}
use Rattle.records.specs.Encoded.{encoded}
use Rattle.records.proofs.Main.{decoded_encoded, encoded_decoded}
use Rattle.claims.specs.File.{joined}
use Rattle.claims.proofs.Pieces.{pieces, Sixteens}
use Rattle.claims.proofs.Sizes.{encoded_sixteen, encoded_small}

pub decode_encoded : (rs : List Record) → AllInRange rs → map decoded (map encoded rs) ≡ rs
unfolding AllInRange
decode_encoded [] h = refl
decode_encoded (r ∷ rs) h = cc (decoded_encoded r h.0, decode_encoded rs h.1)

pub sixteens_encoded : (rs : List Record) → AllInRange rs → Sixteens (map encoded rs)
unfolding AllInRange Sixteens
sixteens_encoded [] h = tt
sixteens_encoded (r ∷ rs) h = (encoded_sixteen r h.0, sixteens_encoded rs h.1)

pub joined_small : (rs : List Record) → AllInRange rs → Bytes (joined (map encoded rs))
unfolding AllInRange joined
joined_small [] h = Bytes.none
joined_small (r ∷ rs) h = Bytes.joined (encoded r) (joined (map encoded rs)) (encoded_small r h.0) (joined_small rs h.1)

not_wrong : (r : Record) → InRange r → r ≢ wrong
not_wrong r h e = rw e at h

-- Pieces of a list of bytes.
pub encode_decoded : (l : List ℕ) → Bytes l → (i n : ℕ) → AllInRange (map decoded (pieces l i n)) → map encoded (map decoded (pieces l i n)) ≡ pieces l i n
unfolding AllInRange pieces
encode_decoded l small i zero h = refl
encode_decoded l small i (suc n) h =
    let p = take 16 (drop (16 * i) l) in
    let s : Bytes (take 16 (drop (16 * i) l)) = Bytes.taken 16 (drop (16 * i) l) (Bytes.dropped (16 * i) l small) in
    cc (encoded_decoded (take 16 (drop (16 * i) l)) s (not_wrong (decoded (take 16 (drop (16 * i) l))) h.0), encode_decoded l small (suc i) n h.1)

pub length_pieces : (l : List ℕ) (i n : ℕ) → length (pieces l i n) ≡ n
unfolding pieces
length_pieces l i zero = refl
length_pieces l i (suc n) = ap suc (length_pieces l (suc i) n)
