use Rattle.abstract_value_laws.proofs.Keyed.{widen_keys_fit}
use Rattle.abstract_value_laws.proofs.laws.widen_keys_fit.Goals as goal

pub returns : goal.returns
returns g c = widen_keys_fit g.B.Base.algebra
