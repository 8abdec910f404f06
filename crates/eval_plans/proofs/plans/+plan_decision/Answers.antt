use Rattle.std.proofs.Common.{◌≡◌, ◌∙◌, ◌<◌, ◌≤◌, None, get_or, length, map, option_map, sym, ap, arith, rules}
use Rattle.std.specs.Prelude.{is_some}
use Rattle.std.proofs.lemmas.Result.{IfOk-weaker}
use Rattle.spec_match_compiler.specs.declared.decision.Decision.{size-Decision}
use Rattle.spec_match_compiler.specs.declared.decision.Decision.TheViews.{sized-OnFlag, sized-OnWord}
use Rattle.spec_match_compiler.specs.Decisions.{trees}
use Rattle.spec_match_compiler.specs.Views.{tree}
use Rattle.abstract_value.specs.Constructors.{spread}
use Rattle.abstract_value.specs.View.{abs, cases_if}
use Rattle.eval_plans.specs.Views.{plan}
use Rattle.eval_plans.specs.Plans.{all_both, both, nothing, planned, present_plan}
use Rattle.abstract_value.proofs.Places.{at_itself, still_some, when_some}
use Rattle.eval_plans.proofs.Planned.{plan_Nothing}
use Rattle.eval_plans.proofs.Planning.{alone_plan, arm_at, arm_past, flag_both, no_plan, present_here, tree_OnFlag, tree_OnWord, word_both}
use Rattle.eval_plans.proofs.plans.+plan_decision.Goals as goal

pub each_plan-loop-i-preserved : goal.each_plan-loop-i-preserved
each_plan-loop-i-preserved g t c =
    let b = g.B.Base.algebra in
    let ctx = c.args.ctx.now in
    let x = abs c.args.x.now in
    let arms = c.args.arms.now in
    let present = spread c.args.present.now in
    let i = c.loop-i.i in
    let first = plan c.loop-i.plan in
    let arm = c.index-arms-i.result in
    let case = get_or present i None in
    let here : i < length arms = omega (arith, c.min-i-end.ensures) in
    let there : i < length present = omega (arith, c.min-i-end.ensures, c.len.ensures) in
    let is : c.is_some.result ≡ is_some case = (search rules) ∙ sym (still_some (λ f. f.now) c.fields.result) ∙ ap is_some c.fields.ensures in
    c.loop-i.invariant ∙ present_here b ctx x first (plan c.in_ok-plan.plan) arms present i arm case c.is_some.result here there c.index-arms-i.is (at_itself present i None there) is c.in_ok-plan.ensures

pub present_plan-returns-in-Some : goal.present_plan-returns-in-Some
present_plan-returns-in-Some g t c =
    let b = g.B.Base.algebra in
    let arms = trees (map tree c.args.arms.now) in
    IfOk-weaker c.some_plan.result _ _ (λ r e. e ∙ sym (ap (λ o. present_plan b c.args.ctx.now (abs c.args.x.now) nothing arms (cases_if (option_map (λ cs. cs.now) o))) c.in-Some.is)) c.some_plan.ensures

pub present_plan-returns-in-None : goal.present_plan-returns-in-None
present_plan-returns-in-None g t c =
    let b = g.B.Base.algebra in
    let x = abs c.args.x.now in
    let arms = trees (map tree c.args.arms.now) in
    plan_Nothing _ _ _ _ ∙ sym (ap (λ o. present_plan b c.args.ctx.now x nothing arms (cases_if (option_map (λ cs. cs.now) o))) c.in-None.is ∙ no_plan b c.args.ctx.now x nothing arms)

pub some_plan-returns-in-Some : goal.some_plan-returns-in-Some
some_plan-returns-in-Some g t c =
    let b = g.B.Base.algebra in
    let x = abs c.args.x.now in
    let arms = trees (map tree c.args.arms.now) in
    let only = when_some _ c.alone.result _ c.in-Some.is c.alone.ensures in
    IfOk-weaker c.arm_plan.result _ _ (λ r e. e ∙ alone_plan b c.args.ctx.now x arms (spread c.args.present.now) c.in-Some.number c.in-Some._fields.now only) c.arm_plan.ensures

pub arm_plan-returns-then-number-arms : goal.arm_plan-returns-then-number-arms
arm_plan-returns-then-number-arms g t c = plan_Nothing _ _ _ _ ∙ arm_past g.B.Base.algebra c.args.ctx.now (abs c.args.x.now) c.args.arms.now c.args.number c.if-number-arms.true

pub arm_plan-returns : goal.arm_plan-returns
arm_plan-returns g t c =
    IfOk-weaker c.plan_decision.result _ _ (λ r e. e ∙ arm_at g.B.Base.algebra c.args.ctx.now (abs c.args.x.now) c.args.arms.now c.args.number c.index-arms-number.result c.if-number-arms.false c.index-arms-number.is) c.plan_decision.ensures

pub plan_decision-loop-rest-preserved-in-true-true : goal.plan_decision-loop-rest-preserved-in-true-true
plan_decision-loop-rest-preserved-in-true-true g t c =
    let b = g.B.Base.algebra in
    let ctx = c.args.ctx.now in
    let x = abs c.args.x.now in
    let before = map plan c.loop-rest.firsts.items in
    let at = c.in-OnWord.at.steps.items in
    let first = tree c.in-OnWord.yes.value in
    let other = tree c.in-OnWord.no.value in
    let is = ap tree c.in-OnWord.is ∙ tree_OnWord c.in-OnWord.at c.in-OnWord.value c.in-OnWord.yes c.in-OnWord.no in
    let o = c.in_ok-o-in-OnWord.o in
    let gave = c.in_ok-o-in-OnWord.ensures in
    let both_ways = word_both b ctx x o c.in-true-true.is-0 c.in-true-true.is-1 at c.in-OnWord.value first other gave in
    let made : plan c.in_ok-plan_decision-in-true-true.field-0 ≡ planned b ctx x first = c.in_ok-plan_decision-in-true-true.ensures ∙ ap (λ d. planned b ctx x (tree d)) c.deref-in-true-true.ensures in
    let left : tree c.deref-rest.result.now ≡ other = ap tree c.deref-rest.ensures in
    let next = planned b ctx x (tree c.deref-rest.result.now) in
    let sized = sized-OnWord c.in-OnWord.at c.in-OnWord.value c.in-OnWord.yes c.in-OnWord.no in
    let same = ap size-Decision c.in-OnWord.is in
    let smaller = ap size-Decision c.deref-rest.ensures in
    record {
      whole = c.loop-rest.invariant.whole ∙ ap (λ d. all_both before (planned b ctx x d)) is ∙ ap (all_both before) both_ways ∙ ap (λ p. all_both before (both p (planned b ctx x other))) (sym made)
          ∙ ap (λ d. all_both before (both (plan c.in_ok-plan_decision-in-true-true.field-0) (planned b ctx x d))) (sym left) ∙ sym (c.in_ok-firsts-in-true-true.ensures next);
      below = omega (arith, sized, same, smaller, c.loop-rest.invariant.below);
    }

pub plan_decision-loop-rest-preserved-in-true-true-2 : goal.plan_decision-loop-rest-preserved-in-true-true-2
plan_decision-loop-rest-preserved-in-true-true-2 g t c =
    let b = g.B.Base.algebra in
    let ctx = c.args.ctx.now in
    let x = abs c.args.x.now in
    let before = map plan c.loop-rest.firsts.items in
    let at = c.in-OnFlag.at.steps.items in
    let first = tree c.in-OnFlag.yes.value in
    let other = tree c.in-OnFlag.no.value in
    let is = ap tree c.in-OnFlag.is ∙ tree_OnFlag c.in-OnFlag.at c.in-OnFlag.yes c.in-OnFlag.no in
    let o = c.flag_there-o.result in
    let gave = c.flag_there-o.ensures in
    let both_ways = flag_both b ctx x o c.in-true-true-2.is-0 c.in-true-true-2.is-1 at first other gave in
    let made : plan c.in_ok-plan_decision-in-true-true-2.field-0 ≡ planned b ctx x first = c.in_ok-plan_decision-in-true-true-2.ensures ∙ ap (λ d. planned b ctx x (tree d)) c.deref-in-true-true-2.ensures in
    let left : tree c.deref-rest-in-true-true-2.result.now ≡ other = ap tree c.deref-rest-in-true-true-2.ensures in
    let next = planned b ctx x (tree c.deref-rest-in-true-true-2.result.now) in
    let sized = sized-OnFlag c.in-OnFlag.at c.in-OnFlag.yes c.in-OnFlag.no in
    let same = ap size-Decision c.in-OnFlag.is in
    let smaller = ap size-Decision c.deref-rest-in-true-true-2.ensures in
    record {
      whole = c.loop-rest.invariant.whole ∙ ap (λ d. all_both before (planned b ctx x d)) is ∙ ap (all_both before) both_ways ∙ ap (λ p. all_both before (both p (planned b ctx x other))) (sym made)
          ∙ ap (λ d. all_both before (both (plan c.in_ok-plan_decision-in-true-true-2.field-0) (planned b ctx x d))) (sym left) ∙ sym (c.in_ok-firsts-in-true-true-2.ensures next);
      below = omega (arith, sized, same, smaller, c.loop-rest.invariant.below);
    }
