use Rattle.fixpoint_theory.proofs.Tables.{tables_are_one}
use Rattle.fixpoint_theory.proofs.laws.tables_are_one.Goals as goal

pub returns : goal.returns
returns g c = tables_are_one (g.A.Analyser.analysis c.args.analyser.now) (g.met.A.Analyser.laws c.args.analyser.now c.requires.ready)
