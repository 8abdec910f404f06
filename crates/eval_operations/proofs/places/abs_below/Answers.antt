use Rattle.std.proofs.Common.{ap, sym, ◌∙◌}
use Rattle.std.specs.Prelude.{option_map}
use Rattle.abstract_value.specs.View.{abs}
use Rattle.eval_operations.proofs.Steps.{at_nothing, at_step}
use Rattle.eval_operations.proofs.places.abs_below.Goals as goal
use Rattle.spec_ir.proofs.Lists.{item_itself}

pub loop-step-preserved : goal.loop-step-preserved
loop-step-preserved g c =
    c.loop-step.invariant ∙ at_step c.args.steps.now c.loop-step.step-index _ (abs c.loop-step.there.now) (abs c.in_ok-there.there.now) c.loop-step-test.true (item_itself c.args.steps.now c.loop-step.step-index (0, 0) c.loop-step-test.true)
    (sym c.field_of.ensures ∙ ap (option_map (λ v. abs v.now)) c.in_ok-there.was)

pub returns-in_err-there : goal.returns-in_err-there
returns-in_err-there g c =
    ap (option_map (λ v. abs v.now)) c.from_residual.ensures
    ∙ sym (c.loop-step.invariant ∙ at_nothing c.args.steps.now c.loop-step.step-index _ (abs c.loop-step.there.now) c.loop-step-test.true (item_itself c.args.steps.now c.loop-step.step-index (0, 0) c.loop-step-test.true)
    (sym c.field_of.ensures ∙ ap (option_map (λ v. abs v.now)) c.in_err-there.was))
