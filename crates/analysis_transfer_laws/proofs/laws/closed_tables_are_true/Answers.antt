use Rattle.analysis_transfer_laws.proofs.Runs.{closed_tables_are_true}
use Rattle.analysis_transfer_laws.proofs.laws.closed_tables_are_true.Goals as goal

pub returns : goal.returns
returns g c = closed_tables_are_true g.D.B.Base.algebra g.met.D.B.Base.laws g.D.B.Base.CAP (g.D.PlainDomain.elements c.args.domain.now) (g.D.PlainDomain.meaning c.args.domain.now)
