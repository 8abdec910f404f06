use Rattle.fixpoint_theory.proofs.Soundness.{closed_tables_are_sound}
use Rattle.fixpoint_theory.proofs.laws.closed_tables_are_sound.Goals as goal

pub returns : goal.returns
returns g c = closed_tables_are_sound (g.A.Analyser.analysis c.args.analyser.now) (g.A.Analyser.machine c.args.analyser.now) (g.met.A.Analyser.laws c.args.analyser.now c.requires.ready)
