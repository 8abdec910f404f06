use Rattle.semantics_accepted.proofs.Tails.{groups_have_one_result}
use Rattle.semantics_accepted.proofs.spec_laws.groups_have_one_result.Goals as goal

pub returns : goal.returns
returns c = groups_have_one_result
