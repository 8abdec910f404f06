use Rattle.fixpoint_theory.proofs.Verdicts.{verdicts_mean}
use Rattle.fixpoint_theory.proofs.laws.verdicts_mean.Goals as goal

pub returns : goal.returns
returns g c = verdicts_mean (g.A.Analyser.analysis c.args.analyser.now) (g.met.A.Analyser.laws c.args.analyser.now c.requires.ready)
