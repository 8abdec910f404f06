use Rattle.std.proofs.Common.{arith}
use Rattle.analysis_choices.proofs.Arms.{other_made}
use Rattle.analysis_choices.proofs.symbol.constructor.Goals as goal

pub returns-in_default : goal.returns-in_default
returns-in_default c = other_made c.args.case c.args.args.now (omega (arith, c.in_default.len_at_least))
