use Rattle.support_modular_rows.proofs.Closure.{closed_under_multiples}
use Rattle.support_modular_rows.proofs.laws.multiples_are_members.Goals as goal

pub returns : goal.returns
returns c = closed_under_multiples
