use Rattle.std.proofs.Common.{◌≡◌, ◌<◌, ◌∙◌, rules, ap, ap₂, arith, get_or, sym, take, fold, length}
use Rattle.std.proofs.lemmas.List.{take_all}
use Rattle.std.proofs.lemmas.List.Sums.{fold_more}
use Rattle.std.proofs.lemmas.Result.{IfOk-weaker}
use Rattle.clap.specs.Words.{App, rule_of, with_rule}
use Rattle.support_command_line.specs.declared.options.OptionName.{OptionName}
use Rattle.support_command_line.specs.declared.options.OptionName.TheVariants.{At}
use Rattle.support_command_line.specs.CommandLine.{bare_line, command_rule, option_rule, words_rule}
use Rattle.support_command_line.specs.Options.{all_options}
use Rattle.support_command_line.proofs.given_words.command_line.Goals as goal

abbrev with_option : App → OptionName → App
with_option line name = with_rule line (option_rule name)

pub loop-option-preserved : goal.loop-option-preserved
loop-option-preserved c =
    let place : c.loop-option.option-index < length all_options = omega arith in
    let option = get_or all_options c.loop-option.option-index At in
    c.in_ok-command.ensures ∙ (ap (λ (line : App). with_option line option) c.loop-option.invariant ∙ sym (fold_more with_option bare_line all_options c.loop-option.option-index At place))

pub returns : goal.returns
returns c =
    let all : take c.loop-option.option-index all_options ≡ all_options = take_all c.loop-option.option-index all_options (omega arith) in
    let options = c.loop-option.invariant ∙ ap (fold with_option bare_line) all in
    let first = c.in_ok-command-2.ensures.shape (search rules) ∙ ap₂ with_rule options (let rule : rule_of c.new.result ≡ command_rule = search rules in rule) in
    let last : rule_of c.action.result ≡ words_rule = search rules in
    IfOk-weaker c.arg-2.result _ _ (λ command added. added.shape (search rules) ∙ ap₂ with_rule first last) c.arg-2.ensures
