use Rattle.fixpoint_theory.proofs.Bounded.{same_elements_hold}
use Rattle.fixpoint_theory.proofs.laws.same_elements_hold.Goals as goal

pub returns : goal.returns
returns g c = same_elements_hold (g.A.Analyser.analysis c.args.analyser.now).elements (g.met.A.Analyser.laws c.args.analyser.now c.requires.ready).elements
