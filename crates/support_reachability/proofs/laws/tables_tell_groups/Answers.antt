use Rattle.support_reachability.proofs.Groups.{groups_are_told}
use Rattle.support_reachability.proofs.laws.tables_tell_groups.Goals as goal

pub returns : goal.returns
returns c = groups_are_told
