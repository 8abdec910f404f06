use Rattle.std.proofs.Common.{◌≡◌, ◌++◌, map, drop}
use Rattle.spec_declarations.specs.Leaves as leaves
use Rattle.spec_declarations.proofs.contents.datatypes_in_datatype.Given as goal

abbrev pub invariant-loop-fields : goal.invariant-loop-fields
invariant-loop-fields l = l.held.items ++ leaves.held (map (λ c. c.items) (drop l.fields-index l.cases)) ≡ leaves.held (map (λ c. c.items) l.cases)
