use Rattle.std.proofs.Common.{◌≡◌, take, drop, ◌++◌}
use Rattle.semantics_values.specs.declared.value.Cell.{Cell}
use Rattle.semantics_values.specs.Values.{put_cell}
use Rattle.semantics_values.proofs.maps.place_of.Given as goal

abbrev pub invariant-loop-i : goal.invariant-loop-i
invariant-loop-i l = (cell : Cell) → put_cell l.key cell l.cells ≡ take l.i l.cells ++ put_cell l.key cell (drop l.i l.cells)
