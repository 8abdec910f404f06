use Rattle.std.proofs.Common.{[], refl}
use Rattle.eval_plans.proofs.Giving.{given_either}
use Rattle.eval_plans.specs.Plans.{arm}
use Rattle.eval_plans.proofs.laws.plans_branch.Goals as goal

pub returns : goal.returns
returns g u j on o l = given_either j on o (arm 0 []) (arm 1 []) (on 0 []) (on 1 []) (λ m. refl) (λ m. refl) l
