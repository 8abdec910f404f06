use Rattle.std.proofs.Common.{◌≡◌, ◌≤◌, drop, length}
use Rattle.abstract_map_laws.specs.Maps.{Fits}
use Rattle.domain_laws.specs.Entry.{map_of, with_cells}
use Rattle.domain_cells.proofs.entry.entry_map.Given as goal

abbrev pub invariant-loop-left : goal.invariant-loop-left
invariant-loop-left g l = record {
  fits : Fits g.B.Base.algebra l.ctx g.B.Base.CAP l.m;
  width : l.m.width ≡ l.w;
  bound : l.left ≤ length l.lines;
  whole : l.m ≡ with_cells g.B.Base.algebra l.ctx g.B.Base.CAP l.field (drop l.left l.lines) (map_of g.B.Base.algebra l.ctx l.w l.fn.rest);
}

abbrev pub decreases-loop-left : goal.decreases-loop-left
decreases-loop-left g l = l.left
