use Rattle.analysis_table_laws.proofs.Cells.{cells_keep}
use Rattle.analysis_table_laws.proofs.laws.cells_keep.Goals as goal

pub returns : goal.returns
returns g c = λ code context cap t. cells_keep g.D.B.Base.algebra context cap code (g.D.PrintableDomain.NoteFits code) (g.met.D.PrintableDomain.notes_keep code) t
