use Rattle.analysis_query_laws.proofs.Cells.{cells_tell_truly}
use Rattle.analysis_query_laws.proofs.laws.cells_tell_truly.Goals as goal

pub returns : goal.returns
returns g c = cells_tell_truly g.B.Base.algebra g.met.B.Base.laws
