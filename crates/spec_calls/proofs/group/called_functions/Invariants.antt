use Rattle.std.proofs.Common.{◌≡◌, map, take}
use Rattle.spec_calls.proofs.group.called_functions.Given as goal

abbrev pub invariant-loop-call : goal.invariant-loop-call
invariant-loop-call l = l.out.items ≡ map (λ c. c.fun) (take l.call-index l.found)
