use Rattle.fixpoint_cases.proofs.SamePieces.{pairs_have_same_pieces}
use Rattle.fixpoint_cases.proofs.laws.pairs_have_same_pieces.Goals as goal

pub returns : goal.returns
returns g c = pairs_have_same_pieces (g.A.Analyser.analysis c.args.first.now).elements (g.A.Analyser.analysis c.args.second.now).elements
