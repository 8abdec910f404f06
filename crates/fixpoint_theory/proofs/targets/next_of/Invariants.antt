use Rattle.std.proofs.Common.{◌≡◌, take}
use Rattle.fixpoint_theory.specs.Code.{inside}
use Rattle.fixpoint_theory.proofs.targets.next_of.Given as goal

abbrev pub invariant-loop-to : goal.invariant-loop-to
invariant-loop-to g l = l.next.items ≡ inside (g.A.Analyser.analysis l.analyser).code (take l.to-index l.targets)
