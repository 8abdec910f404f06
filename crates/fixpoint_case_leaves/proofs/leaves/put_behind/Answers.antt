use Rattle.std.proofs.Common.{map, get_or, sym, subst, take}
use Rattle.fixpoint_theory.specs.Outcome.{AreSameArrivals, at_each}
use Rattle.fixpoint_theory.specs.Views.{arriving}
use Rattle.fixpoint_cases.specs.Sent.{put_all}
use Rattle.fixpoint_cases.proofs.Putting.{arrivals_itself}
use Rattle.fixpoint_case_leaves.proofs.Places.{each_at, each_more, one_more}
use Rattle.fixpoint_case_leaves.proofs.leaves.put_behind.Goals as goal

pub loop-to-init : goal.loop-to-init
loop-to-init g c =
    let laws = (g.met.A.SplitAnalyser.laws c.args.analyser.now c.requires.ready).elements in
    record { value = arrivals_itself (g.A.SplitAnalyser.analysis c.args.analyser.now).elements laws (map (arriving g.A.SplitAnalyser.view) c.args.arrivals.now.items); fits = c.requires.arrivals }

pub loop-to-preserved : goal.loop-to-preserved
loop-to-preserved g c =
    let D = (g.A.SplitAnalyser.analysis c.args.analyser.now).elements in
    let laws = (g.met.A.SplitAnalyser.laws c.args.analyser.now c.requires.ready).elements in
    let view = g.A.SplitAnalyser.view in
    let x = view c.args.x.now in
    let targets = c.args.targets.now in
    let i = c.loop-to.to-index in
    let first = map (arriving view) c.args.arrivals.now.items in
    let later = map (arriving view) c.put.new.arrivals.items in
    record {
      value = subst (λ l. AreSameArrivals D later (put_all D l first)) (sym (each_more x targets i c.loop-to-test.true))
          (one_more D laws (at_each x (take i targets)) (get_or targets i 0, x) first (map (arriving view) c.loop-to.arrivals.items) later (each_at D laws x (take i targets) c.requires.fits) c.requires.fits
          c.requires.arrivals c.loop-to.invariant.fits c.loop-to.invariant.value c.in_ok-put.ensures.value);
      fits = c.in_ok-put.ensures.fits;
    }
