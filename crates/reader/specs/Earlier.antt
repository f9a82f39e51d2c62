-- What a source is judged by beside the file.
-- Assumes nothing.
use Rattle.std.specs.Prelude.{[]}
use Rattle.reading.specs.Reader as Reading
use Rattle.reader.specs.declared.Reader.{Reader}
use Rattle.reader.specs.declared.Invocations.{Invocations}
use Rattle.reader.specs.Rows.{none}
use Rattle.reader.specs.State.{state, viewed}

-- The reader, of which neither rows nor instances are looked at, with what is kept of the invocations.
abbrev pub earlier : Reader → Invocations → Reading.Reader
earlier r kept = viewed none (state r none [] kept.offsets kept.outputs kept.firsts)
