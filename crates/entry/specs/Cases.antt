-- The squaring example and its starred cases. (01, The squaring example)
-- Assumes nothing.
use Rattle.std.specs.Prelude.{ℕ, List, [], ◌∷◌, set}
use Rattle.answers.specs.Answer.{Answer, accepted, refused, Counts, refusal}
use Rattle.timeline.specs.Design.{Port, own, output_of, constant, leaf, built}
use Rattle.entry.specs.Records.{Record, component, part, input, output, instance, invocation, argument, connection}
use Rattle.entry.specs.Answers.{Answers}

-- "All widths 32."
unfoldable pub from_to : ℕ → ℕ → Port
from_to s e = record { start = s; end = e; width = 32 }

-- An invocation of instance 0 at offset k.
unfoldable pub at_offset : ℕ → Record
at_offset k = part (invocation (record { instance = 0; offset = k }))

unfoldable pub squaring : List Record
squaring =
    component leaf 2
    ∷ part (input (from_to 0 1))
    ∷ part (input (from_to 0 1))
    ∷ part (output (from_to 2 3))
    ∷ component built 4
    ∷ part (input (from_to 0 1))
    ∷ part (input (from_to 0 1))
    ∷ part (output (from_to 4 5))
    ∷ part (instance 0)
    ∷ at_offset 0
    ∷ part (argument (own 0))
    ∷ part (argument (own 1))
    ∷ at_offset 2
    ∷ part (argument (output_of 0 0))
    ∷ part (argument (output_of 0 0))
    ∷ part (connection (output_of 1 0))
    ∷ []

-- Each case with its answer, in document 01's own numbers. "Each case changes only what it names."
unfoldable pub cases : List (List Record × Answer Counts)
cases =
    -- A: unchanged
    (squaring, accepted (record { components = 2; records = 16 }))
    -- B: built delay 3
    ∷ (set squaring 4 (component built 3), refused (refusal 11 12))
    -- C: second offset 1
    ∷ (set squaring 12 (at_offset 1), refused (refusal 10 12))
    -- D: second offset 3, built delay 5, output 7 is [5,6)
    ∷ (set (set (set squaring 12 (at_offset 3)) 4 (component built 5)) 7 (part (output (from_to 5 6))), refused (refusal 12 13))
    -- E: built delay 1
    ∷ (set squaring 4 (component built 1), refused (refusal 11 9))
    -- F: output 7 is [4,6)
    ∷ (set squaring 7 (part (output (from_to 4 6))), refused (refusal 12 15))
    -- G: output 3 is [2,5)
    ∷ (set squaring 3 (part (output (from_to 2 5))), refused (refusal 9 3))
    -- H: record 14 reads own input 0
    ∷ (set squaring 14 (part (argument (own 0))), refused (refusal 12 14))
    -- I: the same with input 5 as [0,3)
    ∷ (set (set squaring 14 (part (argument (own 0)))) 5 (part (input (from_to 0 3))), accepted (record { components = 2; records = 16 }))
    -- J: record 14 is constant 4,294,967,295
    ∷ (set squaring 14 (part (argument (constant 4294967295))), accepted (record { components = 2; records = 16 }))
    -- K: constant 4,294,967,296
    ∷ (set squaring 14 (part (argument (constant 4294967296))), refused (refusal 8 14))
    -- L: record 8 names component 1
    ∷ (set squaring 8 (part (instance 1)), refused (refusal 7 8))
    ∷ []

-- Every case has its answer, by the rules.
abbrev pub Answered : List (List Record × Answer Counts) → Type 0
Answered [] = Unit
Answered (t ∷ rest) = Answers t.0 t.1 × Answered rest
