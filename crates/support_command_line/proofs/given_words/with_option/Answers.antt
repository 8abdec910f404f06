use Rattle.std.proofs.Common.{ap, ◌∙◌}
use Rattle.std.proofs.lemmas.Result.{IfOk-weaker}
use Rattle.clap.specs.Words.{app_of, with_rule}
use Rattle.support_command_line.proofs.given_words.with_option.Goals as goal

pub returns : goal.returns
returns c = IfOk-weaker c.arg.result _ _ (λ command added. added.shape c.argument.ensures.local ∙ ap (with_rule (app_of c.args.command)) c.argument.ensures.rule) c.arg.ensures
