use Rattle.std.proofs.Common.{◌≡◌, drop}
use Rattle.std.specs.List.{list_all}
use Rattle.spec_ir.specs.Views.{specification}
use Rattle.semantics_values.specs.Types.{environment_of, key_count, listed_fits}
use Rattle.semantics_values.proofs.types.are_listed.Given as goal

abbrev pub invariant-loop-cell : goal.invariant-loop-cell
invariant-loop-cell l =
    let fits = listed_fits (key_count (environment_of (specification l.spec)) l.ty.key) l.ty.width in
    list_all fits l.cells ≡ list_all fits (drop l.cell-index l.cells)
