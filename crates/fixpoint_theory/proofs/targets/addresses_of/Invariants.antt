use Rattle.std.proofs.Common.{◌≡◌, map, take}
use Rattle.fixpoint_theory.specs.Outcome.{addresses}
use Rattle.fixpoint_theory.specs.Views.{arriving}
use Rattle.fixpoint_theory.proofs.targets.addresses_of.Given as goal

abbrev pub invariant-loop-sent : goal.invariant-loop-sent
invariant-loop-sent g l = l.out.items ≡ addresses (map (arriving g.A.Analyser.view) (take l.sent-index l.arrivals))
