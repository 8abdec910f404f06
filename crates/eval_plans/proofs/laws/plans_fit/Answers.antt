use Rattle.eval_plans.proofs.Fitting.{planned_fits}
use Rattle.eval_plans.proofs.laws.plans_fit.Goals as goal

pub returns : goal.returns
returns g u c cap x by fits = planned_fits g.B.Base.algebra c cap x fits by
