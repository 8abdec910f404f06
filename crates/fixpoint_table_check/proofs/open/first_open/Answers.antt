use Rattle.std.proofs.Common.{◌∙◌, sym}
use Rattle.fixpoint_theory.specs.Views.{listings}
use Rattle.fixpoint_table_check.proofs.Sameness.{open_here, open_more}
use Rattle.fixpoint_table_check.proofs.open.first_open.Goals as goal

pub loop-to-preserved : goal.loop-to-preserved
loop-to-preserved g c =
    let A = g.A.Analyser.analysis c.args.analyser.now in
    c.loop-to.invariant
    ∙ open_more A (g.met.A.Analyser.laws c.args.analyser.now c.requires.ready) (listings g.A.Analyser.view c.args.table.now) c.requires.table (g.A.Analyser.view c.args.x.now) c.args.targets.now c.loop-to.to-index c.loop-to-test.true
    (sym c.if-is_open.ensures)

pub returns-then-is_open : goal.returns-then-is_open
returns-then-is_open g c =
    let A = g.A.Analyser.analysis c.args.analyser.now in
    sym (c.loop-to.invariant
    ∙ open_here A (g.met.A.Analyser.laws c.args.analyser.now c.requires.ready) (listings g.A.Analyser.view c.args.table.now) c.requires.table (g.A.Analyser.view c.args.x.now) c.args.targets.now c.loop-to.to-index c.loop-to-test.true
    (sym c.if-is_open.ensures))
