use Rattle.std.proofs.Common.{ap}
use Rattle.abstract_value_laws.specs.Abs.{parts}
use Rattle.domain_product_states.specs.Parts.{both_parts}
use Rattle.domain_product_states.proofs.parts.copied_together.Goals as goal

pub returns : goal.returns
returns g c = ap (λ l. both_parts (parts l)) c.in_ok-values.ensures
