use Rattle.abstract_value_laws.proofs.Ranks.{widen_falls}
use Rattle.abstract_value_laws.proofs.laws.widen_falls.Goals as goal

pub returns : goal.returns
returns g c = widen_falls g.B.Base.algebra g.met.B.Base.laws
