use Rattle.support_reachability.specs.Marks.{AreMarked}
use Rattle.support_reachability.proofs.search.visit_all.Given as goal

abbrev pub invariant-loop-target : goal.invariant-loop-target
invariant-loop-target l = AreMarked l.targets l.target-index l.initial.marks.items l.marks.items l.initial.stack.items l.stack.items
