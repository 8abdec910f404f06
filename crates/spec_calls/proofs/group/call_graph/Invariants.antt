use Rattle.std.proofs.Common.{◌≡◌, ◌++◌, map, drop}
use Rattle.spec_calls.proofs.group.call_graph.Given as goal

abbrev pub invariant-loop-found : goal.invariant-loop-found
invariant-loop-found l = map (λ row. row.items) l.graph.items ++ map (λ cs. map (λ c. c.fun) cs) (map (λ cs. cs.items) (drop l.found-index l.all)) ≡ map (λ cs. map (λ c. c.fun) cs) (map (λ cs. cs.items) l.all)
