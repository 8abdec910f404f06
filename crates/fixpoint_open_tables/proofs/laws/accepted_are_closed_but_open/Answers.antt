use Rattle.fixpoint_open_tables.proofs.Verdicts.{accepted_are_closed_but_open}
use Rattle.fixpoint_open_tables.proofs.laws.accepted_are_closed_but_open.Goals as goal

pub returns : goal.returns
returns g c = accepted_are_closed_but_open (g.A.Analyser.analysis c.args.analyser.now) (g.met.A.Analyser.laws c.args.analyser.now c.requires.ready)
