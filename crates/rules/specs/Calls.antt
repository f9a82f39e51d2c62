-- A reader of which only the instances, the invocations and the delay are looked at.
-- Assumes nothing.
use Rattle.std.specs.Prelude.{ℕ, true, false, List, get_or}
use Rattle.timeline.specs.Design.{Port, no_port}
use Rattle.reading.specs.Reader.{Row, Reader}

abbrev pub no_look : ℕ → Port
no_look n = no_port

abbrev no_row : Row
no_row = record { built = false; delay = 0; inputs = 0; outputs = 0; first = 0 }

abbrev pub calls : (instances invocations delay : ℕ) → (instance offset : List ℕ) → Reader
calls instances invocations delay instance offset =
    record {
      place = record { built = true; inputs = 0; outputs = 0; instances = instances; invocations = invocations; connections = 0; due = 0 };
      delay = delay;
      first = 0;
      number = 0;
      row = λ c. no_row;
      held = λ n. no_row;
      instance = λ j. get_or instance j 0;
      offset = λ j. get_or offset j 0;
      outputs = λ j. 0;
      output_record = λ j. 0;
      input_record = 0;
      due_offset = 0;
    }
