-- What waits to be written.
-- Assumes nothing.
use Rattle.std.specs.Prelude.{ℕ, ℤ, ◌+◌, ◌≡◌, List, [], ◌++◌, length, cond, nat_le, nat_lt}
use Rattle.pieces.specs.declared.Output.{Output}

-- This text waits for this stream.
abbrev pub Holds : ℤ → List ℕ → Output → Type 0
Holds fd text o = (o.fd ≡ fd) × (o.held.bytes ≡ text)

-- What waits and then the text, if both find room; else the text alone, once the other has been written; and of a text that is longer
-- than all the room, nothing.
abbrev pub behind : List ℕ → List ℕ → List ℕ
behind held text = cond (nat_le (length held + length text) 4096) (held ++ text) (cond (nat_le (length text) 4096) text [])

-- What waits where a line begins: the same, if a line of 160 bytes finds room behind it; else nothing, once it has been written.
abbrev pub begun : List ℕ → List ℕ
begun held = cond (nat_le (length held) 3936) held []

-- The hexadecimal digit of a number below 16.
abbrev pub glyph : ℕ → ℕ
glyph n = cond (nat_lt n 10) (48 + n) (87 + n)
