use Rattle.std.proofs.Common.{sym, arith}
use Rattle.support_modular_rows.proofs.Leads.{divisor_zero, divisor_other}
use Rattle.support_modular_rows.proofs.slots.divisor.Goals as goal

pub returns-then-entry-eq0 : goal.returns-then-entry-eq0
returns-then-entry-eq0 c = record { value = sym (divisor_zero c.args.entry c.if-entry-eq0.true); bound = omega arith }

pub returns-else-entry-eq0 : goal.returns-else-entry-eq0
returns-else-entry-eq0 c = record { value = sym (divisor_other c.args.entry c.if-entry-eq0.false); bound = omega arith }
