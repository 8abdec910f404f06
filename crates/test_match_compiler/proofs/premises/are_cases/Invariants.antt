use Rattle.std.proofs.Common.{◌≡◌, map, drop}
use Rattle.test_match_compiler.specs.Premises.{cases_fit}
use Rattle.test_match_compiler.proofs.premises.are_cases.Given as goal

abbrev pub invariant-loop-fields : goal.invariant-loop-fields
invariant-loop-fields l = cases_fit l.n (map (λ c. c.items) (drop l.fields-index l.cases)) ≡ cases_fit l.n (map (λ c. c.items) l.cases)
