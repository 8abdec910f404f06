use Rattle.support_modular_rows.proofs.Powers.{cancels}
use Rattle.support_modular_rows.proofs.numbers.canceller.Goals as goal

pub returns : goal.returns
returns c = cancels c.args.a c.args.d c.negated_quotient.result c.requires c.if-entry-d-ne0.false c.negated_quotient.ensures
