-- The refusals of document 01's table, each by its name. (01, Answers)
-- Assumes nothing.
use Rattle.std.specs.Prelude.{ℕ}
use Rattle.answers.specs.declared.fault.Fault.{Fault}

-- "Length (file or record list) not allowed above"
abbrev pub Length : ℕ
Length = 1

-- "Check differs"
abbrev pub Check : ℕ
Check = 2

-- "Header, unused slot or spare bytes differ"
abbrev pub Header : ℕ
Header = 3

-- "Kind, range or zero byte wrong in a record"
abbrev pub Record : ℕ
Record = 4

-- "Record not allowed at this place; or file ends in an incomplete component"
abbrev pub Place : ℕ
Place = 5

-- "One of a kind too many"
abbrev pub TooMany : ℕ
TooMany = 6

-- "Reference"
abbrev pub Reference : ℕ
Reference = 7

-- "Width rule"
abbrev pub Width : ℕ
Width = 8

-- "Interval"
abbrev pub Interval : ℕ
Interval = 9

-- "Spacing, against earlier invocations"
abbrev pub Spacing : ℕ
Spacing = 10

-- "Span, over this and earlier invocations"
abbrev pub Span : ℕ
Span = 11

-- "Reading"
abbrev pub Reading : ℕ
Reading = 12

-- "Lent buffer too short, or a flat limit passed"
abbrev pub Room : ℕ
Room = 13

-- "Component or record asked for is absent, or the component is a leaf when lowering"
abbrev pub Absent : ℕ
Absent = 14

-- The number of each name that the code has.
abbrev pub number : Fault → ℕ
number Fault.Length = Length
number Fault.Check = Check
number Fault.Header = Header
number Fault.Record = Record
number Fault.Place = Place
number Fault.TooMany = TooMany
number Fault.Reference = Reference
number Fault.Width = Width
number Fault.Interval = Interval
number Fault.Spacing = Spacing
number Fault.Span = Span
number Fault.Reading = Reading
number Fault.Room = Room
number Fault.Absent = Absent
