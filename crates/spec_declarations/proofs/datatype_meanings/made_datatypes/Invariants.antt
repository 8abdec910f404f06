use Rattle.std.proofs.Common.{◌≡◌, ◌++◌, map, drop}
use Rattle.syntax_parser.specs.View.{datatype}
use Rattle.spec_declarations.specs.Leaves as leaves
use Rattle.spec_declarations.specs.Views.{meanings}
use Rattle.spec_declarations.proofs.datatype_meanings.made_datatypes.Given as goal

abbrev pub invariant-loop-d : goal.invariant-loop-d
invariant-loop-d l = meanings l.all.items ++ map (leaves.made l.names) (map (λ d. datatype d.now) (drop l.d-index l.datas)) ≡ map (leaves.made l.names) (map (λ d. datatype d.now) l.datas)
