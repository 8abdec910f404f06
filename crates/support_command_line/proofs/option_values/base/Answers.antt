use Rattle.std.proofs.Common.{ℕ, List, Bor, ap, sym, ◌∙◌}
use Rattle.std.specs.Prelude.{Option}
use Rattle.support_command_line.specs.declared.bases.BaseName.TheVariants.{KSetInterval}
use Rattle.support_command_line.specs.Bases.{base_named}
use Rattle.support_command_line.specs.OptionValues.{base_of, value_or}
use Rattle.support_command_line.specs.Views.{borrowed_text}
use Rattle.support_command_line.proofs.option_values.base.Goals as goal

pub returns-in-Some : goal.returns-in-Some
unfolding base_of
returns-in-Some c = c.named.ensures ∙ ap (λ (text : Option (Bor (List ℕ))). value_or KSetInterval base_named (borrowed_text text)) (sym c.in-Some.is)

pub returns-in-None : goal.returns-in-None
unfolding base_of
returns-in-None c = ap (λ (text : Option (Bor (List ℕ))). value_or KSetInterval base_named (borrowed_text text)) (sym c.in-None.is)
