use Rattle.domain_product_values.proofs.Values.{data_is}
use Rattle.domain_product_values.proofs.mapped_values.mapped_data.Goals as goal

pub returns-in-Ok : goal.returns-in-Ok
returns-in-Ok g c = data_is c.args.ty c.args.cases c.in-Ok.cases c.in-Ok.is
