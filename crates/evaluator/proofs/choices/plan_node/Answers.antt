use Rattle.std.proofs.Common.{◌≡◌, ◌∙◌, map, ap, sym, subst}
use Rattle.std.specs.Prelude.{IfOk, Result, option_map}
use Rattle.abstract_value.specs.View.{abs}
use Rattle.eval_code.specs.Code.{Node}
use Rattle.eval_code.specs.Views.{node}
use Rattle.eval_nodes.proofs.NodeForms.{node_Choose}
use Rattle.eval_plans.specs.Views.{plan}
use Rattle.evaluator.specs.Arms.{node_plan}
use Rattle.evaluator.proofs.CodeForms.{node_If}
use Rattle.evaluator.proofs.choices.plan_node.Goals as goal

-- What is given at a form is given at a node that is the form.
at_form : {E V D : Type 0} (r : Result V E) (f : V → D) (on : Node → D) (t k : Node) → t ≡ k → IfOk r (λ v. f v ≡ on k) → IfOk r (λ v. f v ≡ on t)
at_form r f on t k e h = subst (λ z. IfOk r (λ v. f v ≡ on z)) (sym e) h

pub returns-in-If : goal.returns-in-If
returns-in-If g c =
    let is = ap node c.in-If.is ∙ node_If c.in-If.c c.in-If._yes c.in-If._no in
    let on = λ (t : Node). node_plan g.B.Base.algebra c.args.ctx.now (map abs c.args.frame.now) t in
    at_form c.plan_condition.result (option_map plan) on _ _ is c.plan_condition.ensures

pub returns-in-Choose : goal.returns-in-Choose
returns-in-Choose g c =
    let is = ap node c.in-Choose.is ∙ node_Choose c.in-Choose.x c.in-Choose.by c.in-Choose._arms in
    let on = λ (t : Node). node_plan g.B.Base.algebra c.args.ctx.now (map abs c.args.frame.now) t in
    at_form c.plan_choice.result (option_map plan) on _ _ is c.plan_choice.ensures
