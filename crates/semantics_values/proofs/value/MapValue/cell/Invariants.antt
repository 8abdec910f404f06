use Rattle.std.proofs.Common.{◌≡◌, drop}
use Rattle.semantics_values.specs.Values.{cell_at}
use Rattle.semantics_values.proofs.value.MapValue.cell.Given as goal

abbrev pub invariant-loop-listed : goal.invariant-loop-listed
invariant-loop-listed l = cell_at l.self.rest l.self.cells.items l.key ≡ cell_at l.self.rest (drop l.listed-index l.self.cells.items) l.key
