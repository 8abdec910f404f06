use Rattle.std.proofs.Common.{sym, ap}
use Rattle.domain_product_states.proofs.sides.word_at.Goals as goal

pub returns : goal.returns
returns g c = sym (ap (λ x. x.word) c.cell_of.ensures)
