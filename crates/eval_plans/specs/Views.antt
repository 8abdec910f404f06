-- Plans of the code as plain data.
use Rattle.std.specs.Prelude.{map}
use Rattle.abstract_value.specs.View.{abs}
use Rattle.eval_plans.specs.declared.plan.Plan.{Plan as Planned, fold-Plan}
use Rattle.eval_plans.specs.declared.plan.Plan.TheOpen.{Plan-F}
use Rattle.eval_plans.specs.Plans.{Plan, nothing, arm, both}

-- which arms are evaluated
abbrev pub plan_step : (X W N C : Type 0) → Plan-F X W N C (Plan W N) → Plan W N
plan_step X W N C Plan-F.Nothing = nothing
plan_step X W N C (Plan-F.Arm r vs) = arm r (map abs vs.items)
plan_step X W N C (Plan-F.Both p q) = both p.value q.value

abbrev pub plan : {X W N C : Type 0} → Planned X W N C → Plan W N
plan {X} {W} {N} {C} = fold-Plan X W N C (Plan W N) (plan_step X W N C)
