use Rattle.std.proofs.Common.{sym, subst}
use Rattle.fixpoint_theory.specs.Views.{arriving}
use Rattle.fixpoint_theory.specs.WorklistState.{arrive_as_sent}
use Rattle.fixpoint_theory.proofs.Lists.{each_seen, each_taken, seen_more}
use Rattle.fixpoint_worklist.specs.Likeness.{AllLike}
use Rattle.fixpoint_worklist.specs.Views.{worklist_state_in}
use Rattle.fixpoint_worklist.proofs.Arrivals.{each_more}
use Rattle.fixpoint_worklist.proofs.arrive.arrive_as_sent.Goals as goal

pub arrive-requires-clause-fits : goal.arrive-requires-clause-fits
arrive-requires-clause-fits g c =
    each_seen (λ a. (g.A.Analyser.analysis c.args.analyser.now).elements.fits a.1) (arriving g.A.Analyser.view) c.args.arrivals.now c.loop-sent.sent-index c.sent-item.result c.loop-sent-test.true c.sent-item.is c.requires.fits

pub loop-sent-preserved : goal.loop-sent-preserved
loop-sent-preserved g c =
    let A = g.A.Analyser.analysis c.args.analyser.now in
    let laws = g.met.A.Analyser.laws c.args.analyser.now c.requires.ready in
    let view = g.A.Analyser.view in
    let xs = c.args.arrivals.now in
    let i = c.loop-sent.sent-index in
    let x = c.sent-item.result in
    let p = worklist_state_in view c.args.work.now in
    let fits = each_seen (λ a. A.elements.fits a.1) (arriving view) xs i x c.loop-sent-test.true c.sent-item.is c.requires.fits in
    record {
      value = subst (λ l. AllLike A (worklist_state_in view c.arrive.new.work) (arrive_as_sent A l p)) (sym (seen_more (arriving view) xs i x c.loop-sent-test.true c.sent-item.is))
          (each_more A laws p (worklist_state_in view c.loop-sent.work) (worklist_state_in view c.arrive.new.work) _ (arriving view x)
          (each_taken (λ a. A.elements.fits a.1) (arriving view) xs i c.requires.fits) fits c.requires.fine c.loop-sent.invariant.fine c.loop-sent.invariant.value c.in_ok-arrive.ensures.value);
      fine = c.in_ok-arrive.ensures.fine;
      settled = c.in_ok-arrive.ensures.settled;
      reached = c.in_ok-arrive.ensures.reached;
    }
