use Rattle.std.proofs.Common.{◌≡◌, ◌++◌, map, drop}
use Rattle.syntax_parser.specs.View.{item}
use Rattle.spec_declarations.specs.TypeNames.{types_from}
use Rattle.spec_declarations.proofs.type_names.declared_types.Given as goal

abbrev pub invariant-loop-item : goal.invariant-loop-item
invariant-loop-item l = map (λ t. (t.0.now, t.1)) l.before.types.items ++ types_from l.before.datas l.before.maps (map item (drop l.item-index l.items)) ≡ types_from 0 0 (map item l.items)
