use Rattle.fixpoint_theory.proofs.Bounded.{bounds_hold}
use Rattle.fixpoint_theory.proofs.laws.bounds_hold.Goals as goal

pub returns : goal.returns
returns g c = bounds_hold (g.A.Analyser.analysis c.args.analyser.now).elements (g.met.A.Analyser.laws c.args.analyser.now c.requires.ready).elements
