use Rattle.std.proofs.Common.{◌∙◌, ap}
use Rattle.fixpoint_theory.specs.Verdicts.{is_open}
use Rattle.fixpoint_theory.specs.Views.{listings}
use Rattle.fixpoint_table_check.proofs.Sameness.{open_same}
use Rattle.fixpoint_table_check.proofs.checker.is_entry_open.Goals as goal

pub returns : goal.returns
returns g c =
    let A = g.A.Analyser.analysis c.args.analyser.now in
    let laws = g.met.A.Analyser.laws c.args.analyser.now c.requires.ready in
    let t = listings g.A.Analyser.view c.args.table.now in
    let entry = g.A.Analyser.view c.in_ok-entry.entry in
    c.is_open.ensures ∙ ap (λ start. is_open A t entry start) c.start.ensures
    ∙ open_same A laws t c.requires.table entry A.entry A.start c.in_ok-entry.ensures.fits laws.entry_fits c.in_ok-entry.ensures.value
