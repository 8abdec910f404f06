use Rattle.fixpoint_cases.proofs.ByCases.{keep_the_laws_by_cases}
use Rattle.fixpoint_cases.proofs.laws.analyses_by_cases_keep_the_laws.Goals as goal

pub returns : goal.returns
returns g c = keep_the_laws_by_cases (g.A.Analyser.analysis c.args.analyser.now)
