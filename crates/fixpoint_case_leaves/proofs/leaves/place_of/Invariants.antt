use Rattle.std.proofs.Common.{◌≡◌, ◌++◌, drop, map, take}
use Rattle.fixpoint_theory.specs.Views.{arriving}
use Rattle.fixpoint_cases.specs.Sent.{put}
use Rattle.fixpoint_case_leaves.proofs.leaves.place_of.Given as goal

abbrev pub invariant-loop-i : goal.invariant-loop-i
invariant-loop-i g l =
    let D = (g.A.SplitAnalyser.analysis l.analyser).elements in
    let ys = map (arriving g.A.SplitAnalyser.view) l.arrivals in
    (x : g.A.SplitAnalyser.Plain) → put D (l.to, x) ys ≡ take l.i ys ++ put D (l.to, x) (drop l.i ys)
