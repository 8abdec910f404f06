use Rattle.std.proofs.Common.{◌≡◌, drop}
use Rattle.semantics_values.specs.Types.{keys_ascend}
use Rattle.semantics_values.proofs.types.do_ascend.Given as goal

abbrev pub invariant-loop-cell : goal.invariant-loop-cell
invariant-loop-cell l = keys_ascend 0 l.cells ≡ keys_ascend l.least (drop l.cell-index l.cells)
