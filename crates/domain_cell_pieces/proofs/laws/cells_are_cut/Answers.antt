use Rattle.domain_cell_pieces.proofs.Pieces.{cells_are_cut}
use Rattle.domain_cell_pieces.proofs.laws.cells_are_cut.Goals as goal

pub returns : goal.returns
returns g c = cells_are_cut g.B.Base.algebra g.met.B.Base.laws
