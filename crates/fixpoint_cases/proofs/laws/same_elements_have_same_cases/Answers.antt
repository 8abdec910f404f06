use Rattle.fixpoint_cases.proofs.SameCases.{same_cases}
use Rattle.fixpoint_cases.proofs.laws.same_elements_have_same_cases.Goals as goal

pub returns : goal.returns
returns g c split = same_cases (g.A.Analyser.analysis c.args.analyser.now).elements split
