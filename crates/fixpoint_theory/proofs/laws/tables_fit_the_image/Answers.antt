use Rattle.fixpoint_theory.proofs.Tables.{tables_fit_the_image}
use Rattle.fixpoint_theory.proofs.laws.tables_fit_the_image.Goals as goal

pub returns : goal.returns
returns g c = tables_fit_the_image (g.A.Analyser.analysis c.args.analyser.now) (g.met.A.Analyser.laws c.args.analyser.now c.requires.ready)
