use Rattle.std.proofs.Common.{◌≡◌, map, drop}
use Rattle.abstract_map_laws.specs.Cells.{CellFits, joined}
use Rattle.abstract_map_laws.specs.Maps.{cell}
use Rattle.abstract_map.proofs.abstract_maps.AbstractMap.joined_from.Given as goal

abbrev pub invariant-loop-key : goal.invariant-loop-key
invariant-loop-key g l = record {
  fits : CellFits g.B.Base.algebra l.ctx l.self.width l.all;
  all : joined g.B.Base.algebra l.ctx l.self.width l.all (map (cell l.self) (drop l.key-index l.others))
      ≡ joined g.B.Base.algebra l.ctx l.self.width (cell l.self l.first) (map (cell l.self) l.others);
}
