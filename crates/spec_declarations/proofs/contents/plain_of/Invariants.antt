use Rattle.std.proofs.Common.{◌≡◌, map, drop, Some}
use Rattle.spec_declarations.specs.Counts.{plain_cases}
use Rattle.spec_declarations.proofs.contents.plain_of.Given as goal

abbrev pub invariant-loop-fields : goal.invariant-loop-fields
invariant-loop-fields l = plain_cases l.count (map (λ c. c.items) (drop l.fields-index l.cases)) ≡ plain_cases (Some 0) (map (λ c. c.items) l.cases)
