use Rattle.support_modular_rows.proofs.Least.{members_are_least}
use Rattle.support_modular_rows.proofs.laws.members_are_least.Goals as goal

pub returns : goal.returns
returns g c = members_are_least g.P.Property.holds
