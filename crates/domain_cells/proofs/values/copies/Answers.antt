use Rattle.abstract_value.specs.View.{abs}
use Rattle.domain_cells.proofs.Lists.{copies_alone}
use Rattle.domain_cells.proofs.values.copies.Goals as goal

pub returns : goal.returns
returns g c = copies_alone (λ v. abs v) c.in_ok-with_capacity.field-0.items c.args.values.now c.copied_behind.result c.in_ok-with_capacity.ensures.items c.copied_behind.ensures
