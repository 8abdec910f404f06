use Rattle.std.proofs.Common.{◌≡◌, take}
use Rattle.fixpoint_theory.specs.Code.{outside}
use Rattle.fixpoint_theory.proofs.targets.exits_of.Given as goal

abbrev pub invariant-loop-to : goal.invariant-loop-to
invariant-loop-to g l = l.exits.items ≡ outside (g.A.Analyser.analysis l.analyser).code (take l.to-index l.targets)
