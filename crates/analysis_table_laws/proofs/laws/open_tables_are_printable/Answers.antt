use Rattle.analysis_table_laws.proofs.Tables.{open_tables_are_printable}
use Rattle.analysis_table_laws.proofs.laws.open_tables_are_printable.Goals as goal

pub returns : goal.returns
returns g c =
    open_tables_are_printable g.D.B.Base.algebra g.met.D.B.Base.laws g.D.B.Base.CAP (g.D.PrintableDomain.elements c.args.domain.now) (g.D.PrintableDomain.meaning c.args.domain.now) g.D.PrintableDomain.NoteFits g.D.PrintableDomain.ElementFits
    g.met.D.PrintableDomain.notes_keep (g.D.PrintableDomain.elements_keep c.args.domain.now)
