use Rattle.std.proofs.Common.{◌+◌, ◌*◌, drop, map}
use Rattle.base_trait.specs.Uses.{uses_of}
use Rattle.abstract_value.specs.View.{abs}
use Rattle.eval_activation.specs.Activities.{measure}
use Rattle.eval_code.specs.Code.{nodes}
use Rattle.eval_code.specs.Views.{node}
use Rattle.eval_memo.specs.Memos.{entries}
use Rattle.eval_plans.specs.Plans.{size}
use Rattle.eval_plans.specs.Views.{plan}
use Rattle.evaluator.specs.Views.{arms}
use Rattle.evaluator.proofs.Activating.{Active}
use Rattle.evaluator.proofs.Bodies.{Turned}
use Rattle.evaluator.proofs.Going.{Going}
use Rattle.evaluator.proofs.Running.{Ran}
use Rattle.evaluator.proofs.evaluate.+eval.Given as goal

abbrev pub decreases-run_nodes : goal.decreases-run_nodes
decreases-run_nodes g l = 12 * l.room + 11

abbrev pub decreases-evaluate_node : goal.decreases-evaluate_node
decreases-evaluate_node g l = 12 * l.room + 10

abbrev pub decreases-evaluate_choice : goal.decreases-evaluate_choice
decreases-evaluate_choice g l = 12 * l.room + 9

abbrev pub decreases-evaluate_call : goal.decreases-evaluate_call
decreases-evaluate_call g l = 12 * l.room + 9

abbrev pub decreases-evaluate_stretch : goal.decreases-evaluate_stretch
decreases-evaluate_stretch g l = 12 * l.room + 1

abbrev pub decreases-evaluate_tail : goal.decreases-evaluate_tail
decreases-evaluate_tail g l = 12 * l.room + 1

abbrev pub decreases-evaluate_end : goal.decreases-evaluate_end
decreases-evaluate_end g l = 12 * l.room + 1

abbrev pub decreases-evaluate_plan : goal.decreases-evaluate_plan
decreases-evaluate_plan g l = 12 * l.room + 0

abbrev pub decreases-evaluate_arm : goal.decreases-evaluate_arm
decreases-evaluate_arm g l = 12 * l.room + 3

abbrev pub decreases-evaluate_branch : goal.decreases-evaluate_branch
decreases-evaluate_branch g l = 12 * l.room + 2

abbrev pub decreases-evaluate_turn : goal.decreases-evaluate_turn
decreases-evaluate_turn g l = 12 * l.room + 5

abbrev pub decreases-evaluate_body : goal.decreases-evaluate_body
decreases-evaluate_body g l = 12 * l.room + 2

abbrev pub decreases-evaluate_member : goal.decreases-evaluate_member
decreases-evaluate_member g l = 12 * l.room + 3

abbrev pub decreases-value_of_call : goal.decreases-value_of_call
decreases-value_of_call g l = 12 * l.room + 8

abbrev pub decreases-evaluate_activation : goal.decreases-evaluate_activation
decreases-evaluate_activation g l = 12 * l.room + 7

abbrev pub decreases-evaluate_further_turns : goal.decreases-evaluate_further_turns
decreases-evaluate_further_turns g l = 12 * l.room + 6

-- what is left goes on from the frame as it is
abbrev pub invariant-run_nodes-loop-n : goal.invariant-run_nodes-loop-n
invariant-run_nodes-loop-n g l =
    Ran g.B.Base.algebra g.B.Base.CAP l.setting (g.K.Known.calls l.setting.ctx.now) g.K.Counted.before g.K.Counted.ticked (nodes (map node l.nodes)) (nodes (map node (drop l.n-index l.nodes))) l.initial.frame.items l.frame.items (uses_of l.initial.log) (uses_of l.log) (entries l.initial.memo) (entries l.memo) l.steps

abbrev pub invariant-evaluate_plan-loop-rest : goal.invariant-evaluate_plan-loop-rest
invariant-evaluate_plan-loop-rest g l =
    Going g.B.Base.algebra g.B.Base.CAP l.setting (g.K.Known.calls l.setting.ctx.now) g.K.Counted.before g.K.Counted.ticked l.group (arms l.arms) (plan l.fn.plan) (plan l.rest) l.initial.frame.items l.frame.items l.firsts.items (uses_of l.initial.log) (uses_of l.log)
    (entries l.initial.memo) (entries l.memo) l.steps

abbrev pub decreases-evaluate_plan-loop-rest : goal.decreases-evaluate_plan-loop-rest
decreases-evaluate_plan-loop-rest g l = size (plan l.rest)

abbrev pub invariant-evaluate_turn-loop-i : goal.invariant-evaluate_turn-loop-i
invariant-evaluate_turn-loop-i g l = Turned g.B.Base.algebra g.B.Base.CAP l.setting (g.K.Known.calls l.setting.ctx.now) g.K.Counted.before g.K.Counted.ticked l.group l.fn.args l.i l.out (uses_of l.initial.log) (uses_of l.log) (entries l.initial.memo) (entries l.memo) l.steps

abbrev pub invariant-evaluate_further_turns-loop-value : goal.invariant-evaluate_further_turns-loop-value
invariant-evaluate_further_turns-loop-value g l =
    Active g.B.Base.algebra g.B.Base.CAP l.setting (g.K.Known.calls l.setting.ctx.now) g.K.Counted.before g.K.Counted.ticked l.fun (map abs l.fn.args) l.activity l.given (uses_of l.initial.own) (uses_of l.own) (entries l.initial.memo) (entries l.memo) l.steps

abbrev pub decreases-evaluate_further_turns-loop-value : goal.decreases-evaluate_further_turns-loop-value
decreases-evaluate_further_turns-loop-value g l = measure g.B.Base.algebra g.B.Base.CAP g.K.Specified.spec l.activity
