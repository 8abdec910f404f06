use Rattle.std.proofs.Common.{◌≡◌, ◌++◌, map, drop}
use Rattle.syntax_parser.specs.View.{item}
use Rattle.spec_ir.specs.Views.{data_of, signature_of}
use Rattle.spec_declarations.specs.Declarations as spec
use Rattle.spec_declarations.proofs.declare.declare.Given as goal

abbrev pub invariant-loop-item : goal.invariant-loop-item
invariant-loop-item l = record {
  datas : map data_of l.declared.datas.items ++ spec.datas_from l.names (map item (drop l.item-index l.items)) ≡ spec.datas_from l.names (map item l.items);
  maps : l.declared.maps.items ++ spec.maps_from l.names (map item (drop l.item-index l.items)) ≡ spec.maps_from l.names (map item l.items);
  funs : map signature_of l.declared.funs.items ++ spec.signatures_from l.names (map item (drop l.item-index l.items)) ≡ spec.signatures_from l.names (map item l.items);
}
