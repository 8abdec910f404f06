use Rattle.analysis_table_laws.proofs.Notes.{pairs_keep}
use Rattle.analysis_table_laws.proofs.Pairs.{domains_keep}
use Rattle.analysis_table_laws.proofs.laws.pairs_keep.Goals as goal

pub returns : goal.returns
returns g c = λ code cap. (
  pairs_keep g.A.B.Base.algebra.notes g.B.B.Base.algebra.notes code (g.A.PrintableDomain.NoteFits code) (g.B.PrintableDomain.NoteFits code) (g.met.A.PrintableDomain.notes_keep code) (g.met.B.PrintableDomain.notes_keep code),
  domains_keep g.A.B.Base.algebra g.B.B.Base.algebra cap code (g.A.PrintableDomain.elements c.args.first.now) (g.B.PrintableDomain.elements c.args.second.now) (g.A.PrintableDomain.meaning c.args.first.now) (g.B.PrintableDomain.meaning c.args.second.now)
      (g.A.PrintableDomain.NoteFits code) (g.B.PrintableDomain.NoteFits code) (g.A.PrintableDomain.ElementFits code) (g.B.PrintableDomain.ElementFits code)
      (g.met.A.PrintableDomain.notes_keep code) (g.met.B.PrintableDomain.notes_keep code) (g.A.PrintableDomain.elements_keep c.args.first.now code) (g.B.PrintableDomain.elements_keep c.args.second.now code),
)
