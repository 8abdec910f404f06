use Rattle.eval_plans.proofs.Giving.{given_planned}
use Rattle.eval_plans.proofs.laws.plans_decide.Goals as goal

pub returns : goal.returns
returns g u c j on x by l = given_planned j on g.B.Base.algebra c x by l
