use Rattle.std.proofs.Common.{ap₂}
use Rattle.domain_product_states.proofs.parts.projected.Goals as goal

pub returns : goal.returns
returns g c = ap₂ (λ p q. (p, q)) c.in_ok-first.ensures.value c.in_ok-second.ensures.value
