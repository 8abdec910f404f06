use Rattle.fixpoint_cases.proofs.Pieces.{pairs_are_cut}
use Rattle.fixpoint_cases.proofs.laws.pairs_are_cut.Goals as goal

pub returns : goal.returns
returns g c = pairs_are_cut (g.A.Analyser.analysis c.args.first.now).elements (g.A.Analyser.analysis c.args.second.now).elements
