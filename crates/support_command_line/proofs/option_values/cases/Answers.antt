use Rattle.std.proofs.Common.{ℕ, List, Bor, ap, sym, ◌∙◌}
use Rattle.std.specs.Prelude.{Option}
use Rattle.support_command_line.specs.Numbers.{decimal_in}
use Rattle.support_command_line.specs.Defaults.{default_cases}
use Rattle.support_command_line.specs.OptionValues.{cases_of, value_or}
use Rattle.support_command_line.specs.Views.{borrowed_text}
use Rattle.support_command_line.proofs.option_values.cases.Goals as goal

pub returns-in-Some : goal.returns-in-Some
unfolding cases_of
returns-in-Some c = c.decimal.ensures ∙ ap (λ (text : Option (Bor (List ℕ))). value_or default_cases (decimal_in 1 0 8) (borrowed_text text)) (sym c.in-Some.is)

pub returns-in-None : goal.returns-in-None
unfolding cases_of
returns-in-None c = ap (λ (text : Option (Bor (List ℕ))). value_or default_cases (decimal_in 1 0 8) (borrowed_text text)) (sym c.in-None.is)
