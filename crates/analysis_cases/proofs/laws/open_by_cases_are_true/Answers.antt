use Rattle.analysis_cases.proofs.Analyses.{open_by_cases_are_true}
use Rattle.analysis_cases.proofs.laws.open_by_cases_are_true.Goals as goal

pub returns : goal.returns
returns g c = open_by_cases_are_true g.D.B.Base.algebra g.met.D.B.Base.laws g.D.B.Base.CAP (g.D.PlainDomain.elements c.args.domain.now) (g.D.PlainDomain.meaning c.args.domain.now)
