use Rattle.std.proofs.Common.{map, take}
use Rattle.base_trait.specs.Lists.{Each}
use Rattle.fixpoint_theory.specs.Outcome.{AreSameArrivals}
use Rattle.fixpoint_theory.specs.Views.{arriving}
use Rattle.fixpoint_cases.specs.Sent.{put_all}
use Rattle.fixpoint_case_leaves.proofs.leaves.put_sent.Given as goal

abbrev pub invariant-loop-sent : goal.invariant-loop-sent
invariant-loop-sent g l = let D = (g.A.SplitAnalyser.analysis l.analyser).elements in let view = g.A.SplitAnalyser.view in record {
  value : AreSameArrivals D (map (arriving view) l.arrivals.items) (put_all D (map (arriving view) (take l.sent-index l.more)) (map (arriving view) l.initial.arrivals.items));
  fits : Each (λ a. D.fits a.1) (map (arriving view) l.arrivals.items);
}
