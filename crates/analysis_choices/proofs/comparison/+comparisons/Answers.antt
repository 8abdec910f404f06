use Rattle.std.proofs.Common.{◌∙◌}
use Rattle.std.proofs.lemmas.Result.{IfOk-weaker}
use Rattle.semantics_values.specs.Views.{val}
use Rattle.analysis_choices.proofs.Arms.{arm_past, arm_there}
use Rattle.analysis_choices.proofs.comparison.+comparisons.Goals as goal

pub compared_arm-returns-then-number-arms : goal.compared_arm-returns-then-number-arms
compared_arm-returns-then-number-arms t c = c.new.ensures.items ∙ arm_past (val c.args.instruction.now) c.args.env.now c.args.arms.now c.args.row c.if-number-arms.true

pub compared_arm-returns : goal.compared_arm-returns
compared_arm-returns t c =
    IfOk-weaker c.compared.result _ _ (λ r e. e ∙ arm_there (val c.args.instruction.now) c.args.env.now c.args.arms.now c.args.row c.index-arms-number.result c.if-number-arms.false c.index-arms-number.is) c.compared.ensures
