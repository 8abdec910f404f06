use Rattle.std.proofs.Common.{ℕ, ◌-◌, List, Bor, ap, sym, ◌∙◌}
use Rattle.std.specs.Prelude.{Option, option_map}
use Rattle.support_command_line.specs.Defaults.{default_joins}
use Rattle.support_command_line.specs.OptionValues.{joins_of, value_or, widened_from}
use Rattle.support_command_line.specs.Views.{borrowed_text}
use Rattle.support_command_line.proofs.option_values.joins.Goals as goal

abbrev joins_in : List ℕ → Option ℕ
joins_in text = option_map (λ first. first - 1) (widened_from text)

pub returns-in_err-decimal-in-Some : goal.returns-in_err-decimal-in-Some
unfolding joins_of
returns-in_err-decimal-in-Some c =
    c.from_residual.ensures ∙ ap (option_map (λ first. first - 1)) (sym c.in_err-decimal-in-Some.was ∙ c.decimal.ensures)
    ∙ ap (λ (text : Option (Bor (List ℕ))). value_or default_joins joins_in (borrowed_text text)) (sym c.in-Some.is)

pub returns-in_ok-decimal-in-Some : goal.returns-in_ok-decimal-in-Some
unfolding joins_of
returns-in_ok-decimal-in-Some c =
    ap (option_map (λ first. first - 1)) (sym c.in_ok-decimal-in-Some.was ∙ c.decimal.ensures) ∙ ap (λ (text : Option (Bor (List ℕ))). value_or default_joins joins_in (borrowed_text text)) (sym c.in-Some.is)

pub returns-in-None : goal.returns-in-None
unfolding joins_of
returns-in-None c = ap (λ (text : Option (Bor (List ℕ))). value_or default_joins joins_in (borrowed_text text)) (sym c.in-None.is)
