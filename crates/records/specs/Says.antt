-- What the declared records say, in the words of the theory.
-- Assumes nothing.
use Rattle.std.specs.Prelude.{Option, Some, None}
use Rattle.timeline.specs.Design as Design
use Rattle.entry.specs.Records as Records
use Rattle.records.specs.declared.Class.{Class}
use Rattle.records.specs.declared.Class.TheVariants.{Leaf, Built}
use Rattle.records.specs.declared.Port.{Port}
use Rattle.records.specs.declared.Source.{Source}
use Rattle.records.specs.declared.Record.{Record}
use Rattle.records.specs.Decoded.{Named, from, nothing}

abbrev pub class : Class → Design.Class
class Leaf = Design.leaf
class Built = Design.built

abbrev pub port : Port → Design.Port
port p = record { start = p.start; end = p.end; width = p.width }

abbrev pub source : Source → Design.Source
source (Source.Own i) = Design.own i
source (Source.Output j o) = Design.output_of j o
source (Source.Constant v) = Design.constant v

abbrev pub says_source : Option Source → Named
says_source (Some s) = from (source s)
says_source None = nothing

abbrev pub says : Record → Records.Record
says (Record.Component k d) = Records.component (class k) d
says (Record.Input p) = Records.part (Records.input (port p))
says (Record.Output p) = Records.part (Records.output (port p))
says (Record.Instance n) = Records.part (Records.instance n)
says (Record.Invocation n k) = Records.part (Records.invocation (record { instance = n; offset = k }))
says (Record.Argument a) = Records.part (Records.argument (source a.source))
says (Record.Connection s) = Records.part (Records.connection (source s))
says Record.Wrong = Records.wrong
