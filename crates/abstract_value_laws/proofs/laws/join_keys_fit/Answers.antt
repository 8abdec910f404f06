use Rattle.abstract_value_laws.proofs.Keyed.{join_keys_fit}
use Rattle.abstract_value_laws.proofs.laws.join_keys_fit.Goals as goal

pub returns : goal.returns
returns g c = join_keys_fit g.B.Base.algebra
