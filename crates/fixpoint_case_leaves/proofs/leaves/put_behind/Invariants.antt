use Rattle.std.proofs.Common.{map, take}
use Rattle.base_trait.specs.Lists.{Each}
use Rattle.fixpoint_theory.specs.Outcome.{AreSameArrivals, at_each}
use Rattle.fixpoint_theory.specs.Views.{arriving}
use Rattle.fixpoint_cases.specs.Sent.{put_all}
use Rattle.fixpoint_case_leaves.proofs.leaves.put_behind.Given as goal

abbrev pub invariant-loop-to : goal.invariant-loop-to
invariant-loop-to g l = let D = (g.A.SplitAnalyser.analysis l.analyser).elements in let view = g.A.SplitAnalyser.view in record {
  value : AreSameArrivals D (map (arriving view) l.arrivals.items) (put_all D (at_each (view l.x) (take l.to-index l.targets)) (map (arriving view) l.initial.arrivals.items));
  fits : Each (λ a. D.fits a.1) (map (arriving view) l.arrivals.items);
}
