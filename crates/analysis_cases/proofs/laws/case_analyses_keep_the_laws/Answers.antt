use Rattle.analysis_cases.proofs.Analyses.{case_analyses_keep_the_laws}
use Rattle.analysis_cases.proofs.laws.case_analyses_keep_the_laws.Goals as goal

pub returns : goal.returns
returns g c = case_analyses_keep_the_laws g.D.B.Base.algebra g.met.D.B.Base.laws g.D.B.Base.CAP (g.D.PlainDomain.elements c.args.domain.now) (g.D.PlainDomain.meaning c.args.domain.now)
