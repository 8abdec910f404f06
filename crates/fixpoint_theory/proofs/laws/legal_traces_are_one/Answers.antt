use Rattle.fixpoint_theory.proofs.One.{legal_traces_are_one}
use Rattle.fixpoint_theory.proofs.laws.legal_traces_are_one.Goals as goal

pub returns : goal.returns
returns g c = legal_traces_are_one (g.A.Analyser.analysis c.args.analyser.now)
