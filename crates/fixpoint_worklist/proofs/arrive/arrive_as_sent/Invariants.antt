use Rattle.std.proofs.Common.{map, take}
use Rattle.fixpoint_theory.specs.Views.{arriving}
use Rattle.fixpoint_theory.specs.WorklistState.{arrive_as_sent}
use Rattle.fixpoint_worklist.specs.Fitting.{AllFit}
use Rattle.fixpoint_worklist.specs.Likeness.{AllLike}
use Rattle.fixpoint_worklist.specs.Settled.{AreSettled}
use Rattle.fixpoint_worklist.specs.Views.{IsReached, worklist_state_in}
use Rattle.fixpoint_worklist.proofs.arrive.arrive_as_sent.Given as goal

abbrev pub invariant-loop-sent : goal.invariant-loop-sent
invariant-loop-sent g l = let A = g.A.Analyser.analysis l.analyser in let view = g.A.Analyser.view in record {
  value : AllLike A (worklist_state_in view l.work) (arrive_as_sent A (map (arriving view) (take l.sent-index l.arrivals)) (worklist_state_in view l.initial.work));
  fine : AllFit A (worklist_state_in view l.work);
  settled : AreSettled view A l.work;
  reached : IsReached l.work;
}
