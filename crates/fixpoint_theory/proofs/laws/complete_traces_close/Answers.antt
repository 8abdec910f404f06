use Rattle.fixpoint_theory.proofs.Tables.{full_traces_close}
use Rattle.fixpoint_theory.proofs.laws.complete_traces_close.Goals as goal

pub returns : goal.returns
returns g c = full_traces_close (g.A.Analyser.analysis c.args.analyser.now) (g.met.A.Analyser.laws c.args.analyser.now c.requires.ready)
