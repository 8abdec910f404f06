use Rattle.std.proofs.Common.{◌≡◌, ◌≤◌, take, drop, length}
use Rattle.abstract_map_laws.specs.Calls.{rest_with}
use Rattle.abstract_map_laws.specs.Cells.{CellFits}
use Rattle.abstract_map.proofs.fold.folded_rest.Given as goal

abbrev pub invariant-loop-place : goal.invariant-loop-place
invariant-loop-place g l = record {
  within : l.place ≤ length l.cells;
  fits : CellFits g.B.Base.algebra l.ctx l.w l.rest;
  rest : rest_with g.B.Base.algebra l.ctx l.w l.rest (drop g.B.Base.CAP (take l.place l.cells)) ≡ rest_with g.B.Base.algebra l.ctx l.w l.initial.rest (drop g.B.Base.CAP l.cells);
}

abbrev pub decreases-loop-place : goal.decreases-loop-place
decreases-loop-place g l = l.place
