use Rattle.std.proofs.Common.{ℕ, List, Bor, ap, sym, ◌∙◌}
use Rattle.std.specs.Prelude.{Option}
use Rattle.support_command_line.specs.Numbers.{address_in}
use Rattle.support_command_line.specs.OptionValues.{address_of, value_or}
use Rattle.support_command_line.specs.Views.{borrowed_text}
use Rattle.support_command_line.proofs.option_values.base_address.Goals as goal

pub returns-in-Some : goal.returns-in-Some
unfolding address_of
returns-in-Some c = c.address.ensures ∙ ap (λ (text : Option (Bor (List ℕ))). value_or 0 address_in (borrowed_text text)) (sym c.in-Some.is)

pub returns-in-None : goal.returns-in-None
unfolding address_of
returns-in-None c = ap (λ (text : Option (Bor (List ℕ))). value_or 0 address_in (borrowed_text text)) (sym c.in-None.is)
