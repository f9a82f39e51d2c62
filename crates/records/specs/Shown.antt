-- How the declared records are printed.
-- Assumes nothing.
use Rattle.std.specs.Prelude.{ℕ, List, ◌++◌, codes, decimal}
use Rattle.records.specs.declared.Class.{Class}
use Rattle.records.specs.declared.Class.TheVariants.{Leaf, Built}
use Rattle.records.specs.declared.Port.{Port}
use Rattle.records.specs.declared.Source.{Source}

abbrev pub class_text : Class → List ℕ
class_text Leaf = codes "leaf"
class_text Built = codes "built"

abbrev pub port_text : Port → List ℕ
port_text p = codes "[" ++ decimal p.start ++ codes ", " ++ decimal p.end ++ codes ") width " ++ decimal p.width

abbrev pub source_text : Source → List ℕ
source_text (Source.Own i) = codes "own " ++ decimal i
source_text (Source.Output j o) = codes "inv " ++ decimal j ++ codes " " ++ decimal o
source_text (Source.Constant v) = codes "const " ++ decimal v
