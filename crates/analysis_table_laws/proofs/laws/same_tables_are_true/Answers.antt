use Rattle.analysis_table_laws.proofs.Truth.{same_tables_are_true}
use Rattle.analysis_table_laws.proofs.laws.same_tables_are_true.Goals as goal

pub returns : goal.returns
returns g c = same_tables_are_true g.D.B.Base.algebra g.D.B.Base.CAP (g.D.PlainDomain.elements c.args.domain.now) (g.D.PlainDomain.meaning c.args.domain.now)
