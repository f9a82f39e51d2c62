-- FNV-1a, 32 bits: "start at 2,166,136,261; for each byte, exclusive-or it in, then the value is multiplied by 16,777,619, keeping the low 32 bits". (01, Blocks)
-- Assumes nothing.
use Rattle.std.specs.Prelude.{ℕ, ◌*◌, ◌%◌, ◌^◌, List, [], ◌∷◌}
use Rattle.std.specs.Int.Bits.{bit_xor}

abbrev pub multiplied : ℕ → ℕ
multiplied h = h * 16777619 % 2 ^ 32

abbrev pub step : ℕ → ℕ → ℕ
step h b = multiplied (bit_xor h b)

abbrev pub hash_from : ℕ → List ℕ → ℕ
hash_from h [] = h
hash_from h (b ∷ s) = hash_from (step h b) s

abbrev pub hash : List ℕ → ℕ
hash s = hash_from 2166136261 s
