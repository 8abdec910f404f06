use Rattle.std.proofs.lemmas.Result.{on_ok_weaker}
use Rattle.fixpoint_worklist.specs.Views.{worklist_state_in}
use Rattle.fixpoint_worklist.proofs.Arrivals.{begun_from}
use Rattle.fixpoint_worklist.proofs.analysis.arrive_at_entry.Goals as goal

pub returns-clause-value : goal.returns-clause-value
returns-clause-value g c =
    on_ok_weaker c.arrive.result
    (begun_from (g.A.Analyser.analysis c.args.analyser.now) (g.met.A.Analyser.laws c.args.analyser.now c.requires.ready)
    (worklist_state_in g.A.Analyser.view c.args.work.now) (worklist_state_in g.A.Analyser.view c.arrive.new.work) (g.A.Analyser.view c.in_ok-entry.entry)
    c.in_ok-entry.ensures.fits c.in_ok-entry.ensures.value c.requires.nothing)
    (rw c.start.ensures at c.arrive.ensures.value)
