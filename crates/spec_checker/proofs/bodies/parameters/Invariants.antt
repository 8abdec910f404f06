use Rattle.std.proofs.Common.{◌≡◌, ◌++◌, drop}
use Rattle.spec_checker.specs.Functions.{parameters}
use Rattle.spec_checker.proofs.bodies.parameters.Given as goal

abbrev pub invariant-loop-i : goal.invariant-loop-i
invariant-loop-i l = parameters l.params l.types ≡ l.scope ++ parameters (drop l.i l.params) (drop l.i l.types)
