use Rattle.fixpoint_cases.proofs.Pieces.{choices_split}
use Rattle.fixpoint_cases.proofs.laws.choices_split.Goals as goal

pub returns : goal.returns
returns g c = choices_split (g.A.Analyser.analysis c.args.analyser.now).elements
