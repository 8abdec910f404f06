use Rattle.std.proofs.Common.{◌≡◌, ◌++◌, map, drop}
use Rattle.syntax_parser.specs.View.{datatype, item}
use Rattle.spec_declarations.specs.Leaves as leaves
use Rattle.spec_declarations.proofs.datatype_meanings.datatypes.Given as goal

abbrev pub invariant-loop-item : goal.invariant-loop-item
invariant-loop-item l = map (λ d. datatype d.now) l.datas.items ++ leaves.datatypes (map item (drop l.item-index l.items)) ≡ leaves.datatypes (map item l.items)
