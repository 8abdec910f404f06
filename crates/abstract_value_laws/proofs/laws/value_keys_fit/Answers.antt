use Rattle.abstract_value_laws.proofs.Keyed.{value_keys_fit}
use Rattle.abstract_value_laws.proofs.laws.value_keys_fit.Goals as goal

pub returns : goal.returns
returns g c = value_keys_fit g.B.Base.algebra
