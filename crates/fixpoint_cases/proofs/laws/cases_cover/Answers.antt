use Rattle.fixpoint_cases.proofs.Covering.{cases_cover}
use Rattle.fixpoint_cases.proofs.laws.cases_cover.Goals as goal

pub returns : goal.returns
returns g c = cases_cover (g.A.Analyser.analysis c.args.analyser.now).elements
