use Rattle.std.proofs.Common.{◌≡◌, ◌≤◌, map, drop}
use Rattle.syntax_parser.specs.View.{datatype, item}
use Rattle.spec_declarations.specs.Types as spec
use Rattle.spec_declarations.proofs.types.types_fault.Given as goal

abbrev pub invariant-loop-item : goal.invariant-loop-item
invariant-loop-item l = record {
  faults : spec.items_types_fault l.names (map (λ d. datatype d.now) l.datas) l.facts.recursive.items l.facts.large.items 0 (map item l.items)
      ≡ spec.items_types_fault l.names (map (λ d. datatype d.now) l.datas) l.facts.recursive.items l.facts.large.items l.d (map item (drop l.item-index l.items));
  bound : l.d ≤ l.item-index;
}
