use Rattle.fixpoint_theory.specs.Views.{listings}
use Rattle.fixpoint_open_tables.specs.Endings.{ends_in}
use Rattle.fixpoint_open_tables.proofs.Soundness.{open_tables_are_sound}
use Rattle.fixpoint_open_tables.proofs.Truth.{fits_image}
use Rattle.fixpoint_open_tables.proofs.analysis.analyse.Goals as goal

pub returns-clause-closed : goal.returns-clause-closed
returns-clause-closed g c = record { closed = c.in_ok-report.ensures.closed; endings = c.in_ok-endings.ensures.value }

pub returns-clause-sound : goal.returns-clause-sound
returns-clause-sound g c =
    let ready = c.requires.ready in
    open_tables_are_sound (g.A.Analyser.analysis c.args.analyser.now) (g.A.Analyser.machine c.args.analyser.now) (g.met.A.Analyser.laws c.args.analyser.now ready) (g.met.A.Described.sound c.args.analyser.now ready)
    (listings g.A.Analyser.view c.in_ok-report.report.table) (ends_in c.in_ok-endings.endings) c.in_ok-report.ensures.fits (returns-clause-closed g c)

pub returns-clause-image : goal.returns-clause-image
returns-clause-image g c = fits_image (g.A.Analyser.analysis c.args.analyser.now) (listings g.A.Analyser.view c.in_ok-report.report.table) c.in_ok-report.ensures.image
