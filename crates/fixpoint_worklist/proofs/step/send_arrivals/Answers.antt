use Rattle.std.proofs.Common.{map, subst}
use Rattle.std.specs.Prelude.{OnOk}
use Rattle.fixpoint_theory.specs.Views.{arriving}
use Rattle.fixpoint_theory.specs.WorklistState.{arrive_as_sent, changed, done}
use Rattle.fixpoint_worklist.specs.Likeness.{AllLike}
use Rattle.fixpoint_worklist.specs.Views.{worklist_state_in}
use Rattle.fixpoint_worklist.proofs.Arrivals.{one_play}
use Rattle.fixpoint_worklist.proofs.step.send_arrivals.Goals as goal

pub returns-clause-value : goal.returns-clause-value
returns-clause-value g c =
    let A = g.A.Analyser.analysis c.args.analyser.now in
    let view = g.A.Analyser.view in
    let old = changed c.args.at done (worklist_state_in view c.args.work.now) in
    let same = one_play (worklist_state_in view c.finish.new.work) old c.finish.ensures.value in
    subst (λ p. OnOk c.arrive_as_sent.result (AllLike A (worklist_state_in view c.arrive_as_sent.new.work) (arrive_as_sent A (map (arriving view) c.args.arrivals.now) p))) same c.arrive_as_sent.ensures.value
