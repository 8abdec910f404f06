use Rattle.std.proofs.Common.{◌≡◌, map, drop}
use Rattle.test_match_compiler.specs.Premises.{types_fit}
use Rattle.test_match_compiler.proofs.premises.are_types.Given as goal

abbrev pub invariant-loop-n : goal.invariant-loop-n
invariant-loop-n l = types_fit l.n (map (λ t. map (λ c. c.items) t.items) (drop l.n l.cases-items)) ≡ types_fit 0 (map (λ t. map (λ c. c.items) t.items) l.cases-items)
