use Rattle.std.proofs.Common.{◌≡◌, ◌++◌, map, drop}
use Rattle.spec_declarations.specs.Leaves as leaves
use Rattle.spec_declarations.specs.Views.{meanings}
use Rattle.spec_declarations.proofs.contents.datatypes_in_fields.Given as goal

abbrev pub invariant-loop-cases : goal.invariant-loop-cases
invariant-loop-cases l = map (λ row. row.items) l.graph.items ++ map leaves.held (meanings (drop l.cases-index l.datas)) ≡ map leaves.held (meanings l.datas)
