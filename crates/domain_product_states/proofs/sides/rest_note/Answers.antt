use Rattle.std.proofs.Common.{sym, ap}
use Rattle.domain_product_states.proofs.sides.rest_note.Goals as goal

pub returns : goal.returns
returns g c = sym (ap (λ x. x.note) c.rest.ensures)
