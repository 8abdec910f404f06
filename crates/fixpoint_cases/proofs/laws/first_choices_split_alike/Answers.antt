use Rattle.fixpoint_cases.proofs.SamePieces.{first_choices_split_alike}
use Rattle.fixpoint_cases.proofs.laws.first_choices_split_alike.Goals as goal

pub returns : goal.returns
returns g c = first_choices_split_alike (g.A.Analyser.analysis c.args.analyser.now).elements
