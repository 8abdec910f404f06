use Rattle.support_modular_rows.proofs.Powers.{negated}
use Rattle.support_modular_rows.proofs.numbers.negated_quotient.Goals as goal

pub returns : goal.returns
returns c = negated c.args.a c.args.d c.requires.bound
