use Rattle.fixpoint_theory.proofs.Verdicts.{accepted_are_closed}
use Rattle.fixpoint_theory.proofs.laws.accepted_are_closed.Goals as goal

pub returns : goal.returns
returns g c = accepted_are_closed (g.A.Analyser.analysis c.args.analyser.now) (g.met.A.Analyser.laws c.args.analyser.now c.requires.ready)
