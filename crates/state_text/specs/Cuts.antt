-- The parts of a line as plain data.
use Rattle.state_text.specs.declared.cut.CellSuffix.{CellSuffix as PartOf}
use Rattle.state_text.specs.declared.cut.CellSuffix.TheVariants as code
use Rattle.state_text.specs.declared.cut.Cut.{Cut as CutOf}
use Rattle.state_text.specs.Forms.{CellSuffix, whole, rest, at, from}
use Rattle.state_text.specs.Parsing.{Cut}

abbrev pub part_of : PartOf → CellSuffix
part_of code.Whole = whole
part_of code.Rest = rest
part_of (code.At key) = at key.now
part_of (code.From key) = from key.now

abbrev pub cut_of : CutOf → Cut
cut_of c = record { name = c.name.now; part = part_of c.part; after = c.after.now }
