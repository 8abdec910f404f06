use Rattle.domain_product_states.proofs.parts.copied_apart.Goals as goal

pub returns : goal.returns
returns g c = c.in_ok-first.ensures
