use Rattle.std.proofs.Common.{map, sym, subst, take}
use Rattle.fixpoint_theory.specs.Outcome.{AreSameArrivals}
use Rattle.fixpoint_theory.specs.Views.{arriving}
use Rattle.fixpoint_theory.proofs.Lists.{each_seen, each_taken, seen_more}
use Rattle.fixpoint_cases.specs.Sent.{put_all}
use Rattle.fixpoint_cases.proofs.Putting.{arrivals_itself}
use Rattle.fixpoint_case_leaves.proofs.Places.{one_more}
use Rattle.fixpoint_case_leaves.proofs.leaves.put_sent.Goals as goal

pub put-requires-clause-fits : goal.put-requires-clause-fits
put-requires-clause-fits g c =
    each_seen (λ a. (g.A.SplitAnalyser.analysis c.args.analyser.now).elements.fits a.1) (arriving g.A.SplitAnalyser.view) c.args.more.now c.loop-sent.sent-index c.sent-item.result c.loop-sent-test.true c.sent-item.is c.requires.more

pub loop-sent-init : goal.loop-sent-init
loop-sent-init g c =
    let laws = (g.met.A.SplitAnalyser.laws c.args.analyser.now c.requires.ready).elements in
    record { value = arrivals_itself (g.A.SplitAnalyser.analysis c.args.analyser.now).elements laws (map (arriving g.A.SplitAnalyser.view) c.args.arrivals.now.items); fits = c.requires.arrivals }

pub loop-sent-preserved : goal.loop-sent-preserved
loop-sent-preserved g c =
    let D = (g.A.SplitAnalyser.analysis c.args.analyser.now).elements in
    let laws = (g.met.A.SplitAnalyser.laws c.args.analyser.now c.requires.ready).elements in
    let view = g.A.SplitAnalyser.view in
    let xs = c.args.more.now in
    let i = c.loop-sent.sent-index in
    let x = c.sent-item.result in
    let first = map (arriving view) c.args.arrivals.now.items in
    let later = map (arriving view) c.put.new.arrivals.items in
    let fits = each_seen (λ a. D.fits a.1) (arriving view) xs i x c.loop-sent-test.true c.sent-item.is c.requires.more in
    record {
      value = subst (λ l. AreSameArrivals D later (put_all D l first)) (sym (seen_more (arriving view) xs i x c.loop-sent-test.true c.sent-item.is))
          (one_more D laws (map (arriving view) (take i xs)) (arriving view x) first (map (arriving view) c.loop-sent.arrivals.items) later (each_taken (λ a. D.fits a.1) (arriving view) xs i c.requires.more) fits
          c.requires.arrivals c.loop-sent.invariant.fits c.loop-sent.invariant.value c.in_ok-put.ensures.value);
      fits = c.in_ok-put.ensures.fits;
    }
