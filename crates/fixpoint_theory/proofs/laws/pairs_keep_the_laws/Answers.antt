use Rattle.fixpoint_theory.proofs.Pairs.{paired_laws}
use Rattle.fixpoint_theory.proofs.laws.pairs_keep_the_laws.Goals as goal

pub returns : goal.returns
returns g c =
    paired_laws (g.A.Analyser.analysis c.args.first.now).elements (g.A.Analyser.analysis c.args.second.now).elements (g.met.A.Analyser.laws c.args.first.now c.requires.first).elements
    (g.met.A.Analyser.laws c.args.second.now c.requires.second).elements
