use Rattle.fixpoint_open_tables.specs.Instance.{left_open_laws}
use Rattle.fixpoint_open_tables.proofs.laws.left_open_keeps_the_laws.Goals as goal

pub returns : goal.returns
returns g c = left_open_laws (g.A.Analyser.analysis c.args.analyser.now) (g.met.A.Analyser.laws c.args.analyser.now c.requires.ready)
