use Rattle.std.proofs.Common.{◌∙◌, sym}
use Rattle.fixpoint_theory.specs.Views.{arriving, listings}
use Rattle.fixpoint_theory.proofs.Lists.{each_seen}
use Rattle.fixpoint_table_check.proofs.Sameness.{sent_here, sent_more}
use Rattle.fixpoint_table_check.proofs.open.first_open_sent.Goals as goal

pub is_open-requires-clause-fits : goal.is_open-requires-clause-fits
is_open-requires-clause-fits g c =
    each_seen (λ a. (g.A.Analyser.analysis c.args.analyser.now).elements.fits a.1) (arriving g.A.Analyser.view) c.args.arrivals.now c.loop-sent.sent-index c.sent-item.result c.loop-sent-test.true c.sent-item.is c.requires.fits

pub loop-sent-preserved : goal.loop-sent-preserved
loop-sent-preserved g c =
    let A = g.A.Analyser.analysis c.args.analyser.now in
    c.loop-sent.invariant
    ∙ sent_more A (g.met.A.Analyser.laws c.args.analyser.now c.requires.ready) (listings g.A.Analyser.view c.args.table.now) c.requires.table (arriving g.A.Analyser.view) c.args.arrivals.now c.loop-sent.sent-index c.sent-item.result c.loop-sent-test.true c.sent-item.is
    (sym c.if-is_open.ensures)

pub returns-then-is_open : goal.returns-then-is_open
returns-then-is_open g c =
    let A = g.A.Analyser.analysis c.args.analyser.now in
    sym (c.loop-sent.invariant
    ∙ sent_here A (g.met.A.Analyser.laws c.args.analyser.now c.requires.ready) (listings g.A.Analyser.view c.args.table.now) c.requires.table (arriving g.A.Analyser.view) c.args.arrivals.now c.loop-sent.sent-index c.sent-item.result c.loop-sent-test.true c.sent-item.is
    (sym c.if-is_open.ensures))
