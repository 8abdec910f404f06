use Rattle.std.proofs.Common.{◌≡◌, length, map}
use Rattle.eval_plans.specs.Plans.{all_both}
use Rattle.eval_plans.specs.Views.{plan}
use Rattle.eval_plans.proofs.plans.all_both.Given as goal

abbrev pub decreases-loop-first : goal.decreases-loop-first
decreases-loop-first g l = length l.firsts.items

abbrev pub invariant-loop-first : goal.invariant-loop-first
invariant-loop-first g l = all_both (map plan l.firsts.items) (plan l.out) ≡ all_both (map plan l.initial.firsts.items) (plan l.initial.out)
