use Rattle.abstract_map_laws.proofs.Widening.{widen_keeps}
use Rattle.abstract_map_laws.proofs.laws.widen_keeps.Goals as goal

pub returns : goal.returns
returns g c = widen_keeps g.B.Base.algebra g.met.B.Base.laws
