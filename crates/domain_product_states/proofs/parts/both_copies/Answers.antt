use Rattle.std.proofs.Common.{ap₂}
use Rattle.abstract_value_laws.specs.Abs.{parts}
use Rattle.domain_product_states.proofs.parts.both_copies.Goals as goal

pub returns : goal.returns
returns g c = ap₂ (λ p q. (parts p, parts q)) c.in_ok-first.ensures c.in_ok-second.ensures
