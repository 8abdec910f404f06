use Rattle.fixpoint_worklist.specs.Views.{worklist_state_in}
use Rattle.fixpoint_worklist.proofs.Arrivals.{one_more}
use Rattle.fixpoint_worklist.proofs.arrive.arrive_at_all.Goals as goal

pub loop-to-preserved : goal.loop-to-preserved
loop-to-preserved g c = record {
  value =
      one_more (g.A.Analyser.analysis c.args.analyser.now) (g.met.A.Analyser.laws c.args.analyser.now c.requires.ready)
      (worklist_state_in g.A.Analyser.view c.args.work.now) (worklist_state_in g.A.Analyser.view c.loop-to.work) (worklist_state_in g.A.Analyser.view c.arrive.new.work) (g.A.Analyser.view c.args.new.now) c.args.targets.now c.loop-to.to-index
      c.loop-to-test.true c.requires.fits c.requires.fine c.loop-to.invariant.fine c.loop-to.invariant.value c.in_ok-arrive.ensures.value;
  fine = c.in_ok-arrive.ensures.fine;
  settled = c.in_ok-arrive.ensures.settled;
  reached = c.in_ok-arrive.ensures.reached;
}
