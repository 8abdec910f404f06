use Rattle.std.proofs.Common.{◌≡◌, take, fold}
use Rattle.clap.specs.Words.{App, app_of, with_rule}
use Rattle.support_command_line.specs.declared.options.OptionName.{OptionName}
use Rattle.support_command_line.specs.CommandLine.{bare_line, option_rule}
use Rattle.support_command_line.specs.Options.{all_options}
use Rattle.support_command_line.proofs.given_words.command_line.Given as goal

-- the command has the options so far
abbrev pub invariant-loop-option : goal.invariant-loop-option
invariant-loop-option l = app_of l.command ≡ fold (λ (line : App) (name : OptionName). with_rule line (option_rule name)) bare_line (take l.option-index all_options)
