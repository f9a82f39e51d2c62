-- Two records that say the same are the same: the contract of `decode` leaves one answer.
-- Assumes nothing.
use mathlib.Core.Path.{◌≡◌, refl, ap, sym, ◌∙◌}
use Rattle.timeline.specs.Design as Design
use Rattle.entry.specs.Records as Records
use Rattle.records.specs.declared.Class.{Class}
use Rattle.records.specs.declared.Class.TheVariants.{Leaf, Built}
use Rattle.records.specs.declared.Port.{Port}
use Rattle.records.specs.declared.Source.{Source}
use Rattle.records.specs.declared.Record.{Record}
use Rattle.records.specs.Says as Says

class : Design.Class → Class
class Design.leaf = Leaf
class Design.built = Built

port : Design.Port → Port
port p = record { start = p.start; end = p.end; width = p.width }

source : Design.Source → Source
source (Design.own i) = Source.Own i
source (Design.output_of j o) = Source.Output j o
source (Design.constant v) = Source.Constant v

-- The record that says it.
said_by : Records.Record → Record
said_by Records.wrong = Record.Wrong
said_by (Records.component k d) = Record.Component (class k) d
said_by (Records.part (Records.input p)) = Record.Input (port p)
said_by (Records.part (Records.output p)) = Record.Output (port p)
said_by (Records.part (Records.instance n)) = Record.Instance n
said_by (Records.part (Records.invocation v)) = Record.Invocation v.instance v.offset
said_by (Records.part (Records.argument s)) = Record.Argument (record { source = source s })
said_by (Records.part (Records.connection s)) = Record.Connection (source s)

same_class : (k : Class) → class (Says.class k) ≡ k
unfolding class
same_class Leaf = refl
same_class Built = refl

same_source : (s : Source) → source (Says.source s) ≡ s
unfolding source
same_source (Source.Own i) = refl
same_source (Source.Output j o) = refl
same_source (Source.Constant v) = refl

same_record : (r : Record) → said_by (Says.says r) ≡ r
unfolding said_by port
same_record (Record.Component k d) = ap (λ (c : Class). Record.Component c d) (same_class k)
same_record (Record.Input p) = refl
same_record (Record.Output p) = refl
same_record (Record.Instance n) = refl
same_record (Record.Invocation n k) = refl
same_record (Record.Argument a) = ap (λ (s : Source). Record.Argument (record { source = s })) (same_source a.source)
same_record (Record.Connection s) = ap Record.Connection (same_source s)
same_record Record.Wrong = refl

pub one_record : (r q : Record) → Says.says r ≡ Says.says q → r ≡ q
one_record r q e = sym (same_record r) ∙ ap said_by e ∙ same_record q
