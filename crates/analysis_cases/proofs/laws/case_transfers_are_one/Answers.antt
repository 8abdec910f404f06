use Rattle.analysis_cases.proofs.Analyses.{case_transfers_are_one}
use Rattle.analysis_cases.proofs.laws.case_transfers_are_one.Goals as goal

pub returns : goal.returns
returns g c = case_transfers_are_one g.D.B.Base.algebra g.met.D.B.Base.laws g.D.B.Base.CAP (g.D.PlainDomain.elements c.args.domain.now) (g.D.PlainDomain.meaning c.args.domain.now)
