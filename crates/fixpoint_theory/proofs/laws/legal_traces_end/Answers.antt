use Rattle.fixpoint_theory.proofs.Ending.{legal_traces_end}
use Rattle.fixpoint_theory.proofs.laws.legal_traces_end.Goals as goal

pub returns : goal.returns
returns g c = legal_traces_end (g.A.Analyser.analysis c.args.analyser.now) (g.met.A.Analyser.laws c.args.analyser.now c.requires.ready)
