use Rattle.support_modular_rows.proofs.Closure.{holds_zero}
use Rattle.support_modular_rows.proofs.laws.zero_is_a_member.Goals as goal

pub returns : goal.returns
returns c = holds_zero
