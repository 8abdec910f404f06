use denote.Param.Weighed.{most}
use Rattle.std.proofs.Common.{◌≡◌, ◌≤◌, ◌+◌, ◌*◌, map, max, drop}
use Rattle.spec_match_compiler.specs.declared.decision.Decision.{size-Decision}
use Rattle.spec_match_compiler.specs.Views.{tree}
use Rattle.abstract_value.specs.Constructors.{spread}
use Rattle.abstract_value.specs.View.{abs}
use Rattle.eval_plans.specs.Plans.{all_both, nothing, planned}
use Rattle.eval_plans.specs.Views.{plan}
use Rattle.eval_plans.proofs.Planning.{present_so}
use Rattle.eval_plans.proofs.plans.+plan_decision.Given as goal

abbrev pub decreases-plan_decision : goal.decreases-plan_decision
decreases-plan_decision g l = 6 * size-Decision l.by.now

abbrev pub decreases-present_plan : goal.decreases-present_plan
decreases-present_plan g l = 6 * most size-Decision l.arms.now + 5

abbrev pub decreases-arm_plan : goal.decreases-arm_plan
decreases-arm_plan g l = 6 * most size-Decision l.arms.now + 3

abbrev pub decreases-some_plan : goal.decreases-some_plan
decreases-some_plan g l = 6 * most size-Decision l.arms.now + 4

abbrev pub decreases-each_plan : goal.decreases-each_plan
decreases-each_plan g l = 6 * most size-Decision l.arms.now + 3

abbrev pub decreases-with_arm : goal.decreases-with_arm
decreases-with_arm g l = 6 * size-Decision l.arm.now + 2

-- the plans so far, and that of what is left
abbrev pub invariant-plan_decision-loop-rest : goal.invariant-plan_decision-loop-rest
invariant-plan_decision-loop-rest g l =
    record {
      whole : planned g.B.Base.algebra l.ctx (abs l.x) (tree l.by) ≡ all_both (map plan l.firsts.items) (planned g.B.Base.algebra l.ctx (abs l.x) (tree l.rest));
      below : size-Decision l.rest ≤ size-Decision l.by;
    }

-- the arms so far, and those that are left
abbrev pub invariant-each_plan-loop-i : goal.invariant-each_plan-loop-i
invariant-each_plan-loop-i g l =
    present_so g.B.Base.algebra l.ctx (abs l.x) nothing l.arms (spread l.present) ≡ present_so g.B.Base.algebra l.ctx (abs l.x) (plan l.plan) (drop l.i l.arms) (drop l.i (spread l.present))
