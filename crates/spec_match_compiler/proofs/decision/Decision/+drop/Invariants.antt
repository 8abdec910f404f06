use Rattle.std.proofs.Common.{◌≤◌}
use Rattle.spec_match_compiler.specs.declared.decision.Decision.{size-Decision}
use Rattle.spec_match_compiler.proofs.decision.Decision.+drop.Given as goal

abbrev pub invariant-loop-self : goal.invariant-loop-self
invariant-loop-self l = size-Decision l.self ≤ size-Decision l.fn.self
