use Rattle.analysis_table_laws.proofs.Tables.{tables_are_printable}
use Rattle.analysis_table_laws.proofs.laws.tables_are_printable.Goals as goal

pub returns : goal.returns
returns g c =
    tables_are_printable g.D.B.Base.algebra g.met.D.B.Base.laws g.D.B.Base.CAP (g.D.PrintableDomain.elements c.args.domain.now) (g.D.PrintableDomain.meaning c.args.domain.now) g.D.PrintableDomain.NoteFits g.D.PrintableDomain.ElementFits
    g.met.D.PrintableDomain.notes_keep (g.D.PrintableDomain.elements_keep c.args.domain.now)
