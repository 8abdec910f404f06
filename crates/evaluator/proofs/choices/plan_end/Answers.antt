use Rattle.std.proofs.Common.{◌≡◌, ◌∙◌, map, ap, sym, subst}
use Rattle.std.specs.Prelude.{IfOk, Result, option_map}
use Rattle.abstract_value.specs.View.{abs}
use Rattle.eval_code.specs.Code.{End}
use Rattle.eval_code.specs.Views.{end}
use Rattle.eval_plans.specs.Views.{plan}
use Rattle.evaluator.specs.Arms.{end_plan}
use Rattle.evaluator.proofs.CodeForms.{end_If, end_Pick}
use Rattle.evaluator.proofs.choices.plan_end.Goals as goal

-- What is given at a form is given at an end that is the form.
at_form : {E V D : Type 0} (r : Result V E) (f : V → D) (on : End → D) (t k : End) → t ≡ k → IfOk r (λ v. f v ≡ on k) → IfOk r (λ v. f v ≡ on t)
at_form r f on t k e h = subst (λ z. IfOk r (λ v. f v ≡ on z)) (sym e) h

pub returns-in-If : goal.returns-in-If
returns-in-If g c =
    let is = ap end c.in-If.is ∙ end_If c.in-If.c c.in-If._yes c.in-If._no in
    let on = λ (t : End). end_plan g.B.Base.algebra c.args.ctx.now (map abs c.args.frame.now) t in
    at_form c.plan_condition.result (option_map plan) on _ _ is c.plan_condition.ensures

pub returns-in-Pick : goal.returns-in-Pick
returns-in-Pick g c =
    let is = ap end c.in-Pick.is ∙ end_Pick c.in-Pick.x c.in-Pick.by c.in-Pick._arms in
    let on = λ (t : End). end_plan g.B.Base.algebra c.args.ctx.now (map abs c.args.frame.now) t in
    at_form c.plan_choice.result (option_map plan) on _ _ is c.plan_choice.ensures
