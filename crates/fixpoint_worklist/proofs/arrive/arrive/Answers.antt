use Rattle.std.proofs.Common.{◌≡◌, true, rules}
use Rattle.std.proofs.lemmas.Result.{on_ok_weaker}
use Rattle.fixpoint_theory.specs.Code.{is_code}
use Rattle.fixpoint_worklist.specs.Views.{count_in, worklist_state_in}
use Rattle.fixpoint_worklist.proofs.Arrivals.{grown_arrives}
use Rattle.fixpoint_worklist.proofs.arrive.arrive.Goals as goal

pub returns-in_ok-elem-in-Some-clause-value : goal.returns-in_ok-elem-in-Some-clause-value
returns-in_ok-elem-in-Some-clause-value g c =
    let A = g.A.Analyser.analysis c.args.analyser.now in
    let code : is_code A.code c.args.at ≡ true = search rules in
    on_ok_weaker c.put_pending-in-Some.result
    (grown_arrives A (g.met.A.Analyser.laws c.args.analyser.now c.requires.ready)
    (worklist_state_in g.A.Analyser.view c.args.work.now) (worklist_state_in g.A.Analyser.view c.put_pending-in-Some.new.work) c.args.at
    (count_in c.args.work.now.changes c.args.at) c.one_more-changes.result (g.A.Analyser.view c.in-Some.old.now.elem) (g.A.Analyser.view c.in_ok-elem-in-Some.elem) (g.A.Analyser.view c.args.new.now)
    code c.in-Some.ensures.some (search rules) (rw c.count_at-changes.ensures at c.in_ok-elem-in-Some.ensures.value)
    (rw c.joins.ensures at (rw c.count_at-changes.ensures at c.one_more-changes.ensures)))
    c.put_pending-in-Some.ensures.value
