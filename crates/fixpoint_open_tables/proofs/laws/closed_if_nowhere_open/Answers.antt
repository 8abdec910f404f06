use Rattle.fixpoint_open_tables.proofs.Shut.{closed_if_nowhere_open}
use Rattle.fixpoint_open_tables.proofs.laws.closed_if_nowhere_open.Goals as goal

pub returns : goal.returns
returns g c = closed_if_nowhere_open (g.A.Analyser.analysis c.args.analyser.now)
