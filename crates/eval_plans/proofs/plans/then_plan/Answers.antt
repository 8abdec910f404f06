use Rattle.std.proofs.Common.{sym}
use Rattle.eval_plans.specs.Views.{plan}
use Rattle.eval_plans.proofs.Planned.{arm_then, both_then}
use Rattle.eval_plans.proofs.plans.then_plan.Goals as goal

pub returns-in-Arm : goal.returns-in-Arm
returns-in-Arm g c = rw (sym (arm_then c.args.first (plan c.args.second) c.in-Arm.number c.in-Arm.named c.in-Arm.is)) c.both.ensures

pub returns-in-Both : goal.returns-in-Both
returns-in-Both g c = rw (sym (both_then c.args.first (plan c.args.second) c.in-Both.one c.in-Both.other c.in-Both.is)) c.both-in-Both.ensures
