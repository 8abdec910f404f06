use Rattle.std.proofs.Common.{Bool, ap, sym, ◌∙◌}
use Rattle.std.specs.Prelude.{if◌then◌else◌}
use Rattle.support_command_line.specs.CommandLine.{flag_rule, value_rule}
use Rattle.support_command_line.proofs.given_words.argument.Goals as goal

pub returns-then-has_value-clause-rule : goal.returns-then-has_value-clause-rule
returns-then-has_value-clause-rule c =
    c.value_argument.ensures.rule ∙ ap (λ (value : Bool). if value then value_rule c.args.option else flag_rule c.args.option) (sym c.if-has_value.true ∙ c.has_value.ensures)

pub returns-else-has_value-clause-rule : goal.returns-else-has_value-clause-rule
returns-else-has_value-clause-rule c =
    c.flag_argument.ensures.rule ∙ ap (λ (value : Bool). if value then value_rule c.args.option else flag_rule c.args.option) (sym c.if-has_value.false ∙ c.has_value.ensures)
