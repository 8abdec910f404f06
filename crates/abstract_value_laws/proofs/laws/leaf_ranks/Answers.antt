use Rattle.abstract_value_laws.proofs.Noted.{leaf_ranks}
use Rattle.abstract_value_laws.proofs.laws.leaf_ranks.Goals as goal

pub returns : goal.returns
returns g c = leaf_ranks g.B.Base.algebra
