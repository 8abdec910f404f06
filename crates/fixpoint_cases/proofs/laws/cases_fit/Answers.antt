use Rattle.fixpoint_cases.proofs.Covering.{cases_fit}
use Rattle.fixpoint_cases.proofs.laws.cases_fit.Goals as goal

pub returns : goal.returns
returns g c = cases_fit (g.A.Analyser.analysis c.args.analyser.now).elements
