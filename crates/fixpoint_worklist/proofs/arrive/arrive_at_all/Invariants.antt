use Rattle.std.proofs.Common.{take, Some}
use Rattle.fixpoint_theory.specs.WorklistState.{arrive_all}
use Rattle.fixpoint_worklist.specs.Fitting.{AllFit}
use Rattle.fixpoint_worklist.specs.Likeness.{AllLike}
use Rattle.fixpoint_worklist.specs.Settled.{AreSettled}
use Rattle.fixpoint_worklist.specs.Views.{IsReached, worklist_state_in}
use Rattle.fixpoint_worklist.proofs.arrive.arrive_at_all.Given as goal

abbrev pub invariant-loop-to : goal.invariant-loop-to
invariant-loop-to g l = let A = g.A.Analyser.analysis l.analyser in record {
  value : AllLike A (worklist_state_in g.A.Analyser.view l.work) (arrive_all A (Some (g.A.Analyser.view l.new)) (take l.to-index l.targets) (worklist_state_in g.A.Analyser.view l.initial.work));
  fine : AllFit A (worklist_state_in g.A.Analyser.view l.work);
  settled : AreSettled g.A.Analyser.view A l.work;
  reached : IsReached l.work;
}
