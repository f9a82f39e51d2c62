-- What the declared components and their parts say, in the words of `Parts`.
-- Assumes nothing.
use Rattle.std.specs.Prelude.{ℕ, List, position}
use Rattle.records.specs.Says as Says
use Rattle.parts.specs.declared.List as Lists
use Rattle.parts.specs.declared.kind.Kind.{Kind}
use Rattle.parts.specs.declared.Component.{Component}
use Rattle.parts.specs.declared.Use.{Use}
use Rattle.parts.specs.declared.interval.Interval.{Interval}
use Rattle.parts.specs.Parts as Parts

-- The records of a list, each as its sixteen bytes.
abbrev pub listed : Lists.List → List (List ℕ)
listed l = l.records.now

abbrev pub shown : Component → Parts.Component
shown C = record { list = listed C.list; first = C.first; class = Says.class C.class; delay = C.delay; body = Parts.up_to (position (Parts.is_of Kind.Component) C.behind.now) C.behind.now }

abbrev pub used : Use → Parts.Invocation
used u = record { instance = u.instance; offset = u.offset; place = u.record }

abbrev pub cycles : Interval → Parts.Cycles
cycles t = record { start = t.start; end = t.end }
