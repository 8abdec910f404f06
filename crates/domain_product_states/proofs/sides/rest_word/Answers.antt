use Rattle.std.proofs.Common.{sym, ap}
use Rattle.domain_product_states.proofs.sides.rest_word.Goals as goal

pub returns : goal.returns
returns g c = sym (ap (λ x. x.word) c.rest.ensures)
