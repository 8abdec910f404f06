use Rattle.std.proofs.Common.{◌≡◌, ◌+◌, ◌-◌, ◌*◌, length, vec_len}
use Rattle.fixpoint_theory.specs.Analysis.{height_of}
use Rattle.fixpoint_theory.specs.WorklistState.{IsLegal, worklist_state}
use Rattle.fixpoint_worklist.specs.Fitting.{AllFit}
use Rattle.fixpoint_worklist.specs.Likeness.{AllLike}
use Rattle.fixpoint_worklist.specs.Settled.{AreSettled}
use Rattle.fixpoint_worklist.specs.Views.{IsReached, worklist_state_in}
use Rattle.fixpoint_worklist.proofs.run.run.Given as goal

abbrev pub invariant-loop-at : goal.invariant-loop-at
invariant-loop-at g l = let A = g.A.Analyser.analysis l.analyser in record {
  legal : IsLegal A l.trace.items;
  like : AllLike A (worklist_state_in g.A.Analyser.view l.work) (worklist_state A l.trace.items);
  fine : AllFit A (worklist_state_in g.A.Analyser.view l.work);
  settled : AreSettled g.A.Analyser.view A l.work;
  reached : IsReached l.work;
  steps : l.steps ≡ l.initial.steps + vec_len l.trace;
}

abbrev pub decreases-loop-at : goal.decreases-loop-at
decreases-loop-at g l = let A = g.A.Analyser.analysis l.analyser in length A.code * (height_of A + A.joins + 1) - vec_len l.trace
