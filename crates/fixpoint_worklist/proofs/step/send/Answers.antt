use Rattle.std.proofs.Common.{Some, option_map, sym, subst}
use Rattle.std.specs.Prelude.{OnOk}
use Rattle.fixpoint_theory.specs.WorklistState.{arrive_all, changed, done}
use Rattle.fixpoint_worklist.specs.Likeness.{AllLike}
use Rattle.fixpoint_worklist.specs.Views.{worklist_state_in}
use Rattle.fixpoint_worklist.proofs.Arrivals.{one_play}
use Rattle.fixpoint_worklist.proofs.step.send.Goals as goal

pub returns-in-Some-clause-value : goal.returns-in-Some-clause-value
returns-in-Some-clause-value g c =
    let A = g.A.Analyser.analysis c.args.analyser.now in
    let old = changed c.args.at done (worklist_state_in g.A.Analyser.view c.args.work.now) in
    let same = one_play (worklist_state_in g.A.Analyser.view c.finish.new.work) old c.finish.ensures.value in
    subst (λ post. OnOk c.arrive_at_all.result (AllLike A (worklist_state_in g.A.Analyser.view c.arrive_at_all.new.work) (arrive_all A (option_map g.A.Analyser.view post) c.args.targets.now old))) (sym c.in-Some.is)
    (subst (λ p. OnOk c.arrive_at_all.result (AllLike A (worklist_state_in g.A.Analyser.view c.arrive_at_all.new.work) (arrive_all A (Some (g.A.Analyser.view c.in-Some.post)) c.args.targets.now p))) same c.arrive_at_all.ensures.value)
