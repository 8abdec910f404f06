use Rattle.domain_laws.proofs.Domain.{cells_keep_the_laws}
use Rattle.domain_laws.proofs.laws.cells_keep_the_laws.Goals as goal

pub returns : goal.returns
returns g c = cells_keep_the_laws g.B.Base.algebra g.met.B.Base.laws
