use Rattle.domain_product_laws.proofs.Kept.{parts_are_states}
use Rattle.domain_product_laws.proofs.laws.parts_are_states.Goals as goal

pub returns : goal.returns
returns g c = parts_are_states g.A.Base.algebra g.B.Base.algebra
