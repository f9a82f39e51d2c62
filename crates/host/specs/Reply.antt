-- The struct that a host reads for each answer. (01, Answers)
-- Assumes nothing.
use Rattle.std.specs.Prelude.{ℕ}
use Rattle.answers.specs.Answer.{Answer, accepted, refused, Counts, Refusal}
use Rattle.blocks.specs.File.{record_place}
use Rattle.host.specs.declared.Reply.{Reply}

-- "A refusal hands back its number and position", and nothing else.
abbrev pub refusing : Refusal → Reply
refusing r = record { refusal = r.number; position = r.position; count = 0; components = 0; offset = 0 }

abbrev pub reply : {A : Type 0} → (given : A → Reply) → Answer A → Reply
reply given (accepted a) = given a
reply given (refused r) = refusing r

-- "Acceptance hands back: from the verdict the component and record counts, [..]
abbrev pub counts : Counts → Reply
counts k = record { refusal = 0; position = 0; count = k.records; components = k.components; offset = 0 }

-- from lowering and listing the number of rows, from packing and unpacking the number of bytes written."
abbrev pub amount : ℕ → Reply
amount n = record { refusal = 0; position = 0; count = n; components = 0; offset = 0 }

-- Record i: "the sixteen bytes of the caller's own file", by the place where they begin.
abbrev pub place : (i : ℕ) → Unit {0} → Reply
place i u = record { refusal = 0; position = 0; count = 16; components = 0; offset = record_place i }
