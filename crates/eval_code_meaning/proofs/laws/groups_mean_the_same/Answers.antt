use Rattle.eval_code_meaning.proofs.Groups.{groups_mean_the_same}
use Rattle.eval_code_meaning.proofs.laws.groups_mean_the_same.Goals as goal

pub returns : goal.returns
returns g c = groups_mean_the_same g.B.Base.algebra
