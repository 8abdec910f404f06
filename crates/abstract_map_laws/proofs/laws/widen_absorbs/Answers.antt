use Rattle.abstract_map_laws.proofs.Widening.{widen_absorbs}
use Rattle.abstract_map_laws.proofs.laws.widen_absorbs.Goals as goal

pub returns : goal.returns
returns g c = widen_absorbs g.B.Base.algebra g.met.B.Base.laws
