use Rattle.fixpoint_theory.specs.WorklistState.{worklist_state}
use Rattle.fixpoint_theory.specs.Views.{listings}
use Rattle.fixpoint_theory.proofs.Soundness.{closed_tables_are_sound}
use Rattle.fixpoint_theory.proofs.Tables.{full_traces_close, tables_fit_the_image}
use Rattle.fixpoint_worklist.proofs.Tables.{table_fits, table_in, table_made}
use Rattle.fixpoint_worklist.proofs.analysis.analyse.Goals as goal

pub returns-clause-value : goal.returns-clause-value
returns-clause-value g c =
    let A = g.A.Analyser.analysis c.args.analyser.now in
    let trace = c.in_ok-trace.trace.items in
    let done = c.in_ok-trace.ensures.value in
    record {
      legal = done.legal;
      complete = done.complete;
      table = table_made g.A.Analyser.view A c.run.new.work (worklist_state A trace) c.in_ok-trace.ensures.settled c.in_ok-trace.ensures.complete done.like;
    }

pub returns-clause-closed : goal.returns-clause-closed
returns-clause-closed g c =
    let A = g.A.Analyser.analysis c.args.analyser.now in
    let laws = g.met.A.Analyser.laws c.args.analyser.now c.requires.ready in
    let trace = c.in_ok-trace.trace.items in
    let done = c.in_ok-trace.ensures.value in
    full_traces_close A laws trace (listings g.A.Analyser.view (table_in c.run.new.work)) done.legal done.complete
    (table_fits g.A.Analyser.view A c.run.new.work c.in_ok-trace.ensures.fine)
    (table_made g.A.Analyser.view A c.run.new.work (worklist_state A trace) c.in_ok-trace.ensures.settled c.in_ok-trace.ensures.complete done.like)

pub returns-clause-fits : goal.returns-clause-fits
returns-clause-fits g c = table_fits g.A.Analyser.view (g.A.Analyser.analysis c.args.analyser.now) c.run.new.work c.in_ok-trace.ensures.fine

pub returns-clause-image : goal.returns-clause-image
returns-clause-image g c =
    let A = g.A.Analyser.analysis c.args.analyser.now in
    let laws = g.met.A.Analyser.laws c.args.analyser.now c.requires.ready in
    let trace = c.in_ok-trace.trace.items in
    tables_fit_the_image A laws trace (listings g.A.Analyser.view (table_in c.run.new.work))
    (table_fits g.A.Analyser.view A c.run.new.work c.in_ok-trace.ensures.fine)
    (table_made g.A.Analyser.view A c.run.new.work (worklist_state A trace) c.in_ok-trace.ensures.settled c.in_ok-trace.ensures.complete c.in_ok-trace.ensures.value.like)

pub returns-clause-sound : goal.returns-clause-sound
returns-clause-sound g c =
    let A = g.A.Analyser.analysis c.args.analyser.now in
    let ready = c.requires.ready in
    closed_tables_are_sound A (g.A.Analyser.machine c.args.analyser.now) (g.met.A.Analyser.laws c.args.analyser.now ready) (g.met.A.Described.sound c.args.analyser.now ready)
    (listings g.A.Analyser.view (table_in c.run.new.work)) (returns-clause-fits g c) (returns-clause-closed g c)
