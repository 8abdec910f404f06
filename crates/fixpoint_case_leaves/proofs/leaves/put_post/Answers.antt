use Rattle.std.specs.Prelude.{option_map}
use Rattle.std.proofs.Common.{map, sym, subst}
use Rattle.fixpoint_theory.specs.Outcome.{AreSameArrivals, arrivals_behind}
use Rattle.fixpoint_theory.specs.Views.{arriving}
use Rattle.fixpoint_cases.specs.Sent.{put_all}
use Rattle.fixpoint_cases.proofs.Putting.{arrivals_itself}
use Rattle.fixpoint_case_leaves.proofs.leaves.put_post.Goals as goal

pub returns-in-None-clause-value : goal.returns-in-None-clause-value
returns-in-None-clause-value g c =
    let D = (g.A.SplitAnalyser.analysis c.args.analyser.now).elements in
    let laws = (g.met.A.SplitAnalyser.laws c.args.analyser.now c.requires.ready).elements in
    let view = g.A.SplitAnalyser.view in
    let p = map (arriving view) c.args.arrivals.now.items in
    subst (λ z. AreSameArrivals D p (put_all D (arrivals_behind (option_map view z) c.args.targets.now) p)) (sym c.in-None.is) (arrivals_itself D laws p)
