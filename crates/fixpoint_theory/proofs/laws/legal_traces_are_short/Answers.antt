use Rattle.fixpoint_theory.proofs.Potential.{legal_traces_are_short}
use Rattle.fixpoint_theory.proofs.laws.legal_traces_are_short.Goals as goal

pub returns : goal.returns
returns g c = legal_traces_are_short (g.A.Analyser.analysis c.args.analyser.now) (g.met.A.Analyser.laws c.args.analyser.now c.requires.ready)
