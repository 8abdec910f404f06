use Rattle.analysis_table_laws.proofs.Shown.{shown_words_fit}
use Rattle.analysis_table_laws.proofs.laws.shown_words_fit.Goals as goal

pub returns : goal.returns
returns g c = shown_words_fit g.D.B.Base.algebra g.met.D.B.Base.laws g.D.B.Base.CAP (g.D.PrintableDomain.elements c.args.domain.now) (g.D.PrintableDomain.meaning c.args.domain.now)
