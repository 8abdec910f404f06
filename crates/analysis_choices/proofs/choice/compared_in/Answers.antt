use Rattle.std.proofs.Common.{◌∙◌}
use Rattle.std.proofs.lemmas.Result.{IfOk-weaker}
use Rattle.semantics_values.specs.Views.{val}
use Rattle.analysis_choices.proofs.Arms.{interp_past, interp_there}
use Rattle.analysis_choices.proofs.choice.compared_in.Goals as goal

pub returns-then-number-funs : goal.returns-then-number-funs
returns-then-number-funs c = c.new.ensures.items ∙ interp_past (val c.args.instruction.now) c.args.funs.now c.args.interp c.if-number-funs.true

pub returns : goal.returns
returns c =
    IfOk-weaker c.compared.result _ _ (λ r e. e ∙ interp_there (val c.args.instruction.now) c.args.funs.now c.args.interp c.index-funs-number.result c.if-number-funs.false) c.compared.ensures
