-- Texts of cells as plain data.
use Rattle.std.specs.Prelude.{ℕ, List}
use Rattle.std.specs.Borrow.{Bor}
use Rattle.state_cell_names.specs.declared.name.CellPart.{CellPart}
use Rattle.state_cell_names.specs.declared.name.CellPart.TheVariants as code
use Rattle.state_cell_names.specs.declared.name.CellName.{CellName as CellNameOf}
use Rattle.state_cell_names.specs.Names.{CellName, Part, whole, rest, at}

abbrev pub both : Bor (List ℕ) × Bor (List ℕ) → List ℕ × List ℕ
both x = (x.0.now, x.1.now)

abbrev pub part_of : CellPart → Part
part_of code.Whole = whole
part_of code.Rest = rest
part_of (code.At key) = at key.now

abbrev pub cell_of : CellNameOf → CellName
cell_of c = record { name = c.name.now; part = part_of c.part }
