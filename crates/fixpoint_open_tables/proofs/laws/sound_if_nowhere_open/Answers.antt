use Rattle.fixpoint_open_tables.proofs.Shut.{sound_if_nowhere_open}
use Rattle.fixpoint_open_tables.proofs.laws.sound_if_nowhere_open.Goals as goal

pub returns : goal.returns
returns g c = sound_if_nowhere_open (g.A.Analyser.analysis c.args.analyser.now) (g.A.Analyser.machine c.args.analyser.now)
