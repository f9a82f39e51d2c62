-- The tests that records of several kinds share.
-- Assumes nothing.
use Rattle.std.specs.Prelude.{ℕ, ◌+◌, Bool, [], ◌∷◌, leb}
use Rattle.answers.specs.Fault as Fault
use Rattle.timeline.specs.Design.{Port}
use Rattle.reading.specs.Scan.{Tests}

-- Whether a record may stand here, and whether there is room for one more of its kind.
abbrev pub allowed_tests : (may room : Bool) → Tests
allowed_tests may room = (Fault.Place, may) ∷ (Fault.TooMany, room) ∷ []

-- That, and the interval, of an input or an output of a component with this delay.
abbrev pub port_tests : (may room : Bool) → (delay : ℕ) → Port → Tests
port_tests may room delay p = (Fault.Place, may) ∷ (Fault.TooMany, room) ∷ (Fault.Interval, leb p.end (p.start + delay)) ∷ []
