use Rattle.std.proofs.Common.{ℕ, List, Bor, ap, sym, ◌∙◌}
use Rattle.std.specs.Prelude.{Option}
use Rattle.support_command_line.specs.declared.orders.Order.TheVariants.{Big}
use Rattle.support_command_line.specs.Orders.{order_named}
use Rattle.support_command_line.specs.OptionValues.{order_of, value_or}
use Rattle.support_command_line.specs.Views.{borrowed_text}
use Rattle.support_command_line.proofs.option_values.order.Goals as goal

pub returns-in-Some : goal.returns-in-Some
unfolding order_of
returns-in-Some c = c.named.ensures ∙ ap (λ (text : Option (Bor (List ℕ))). value_or Big order_named (borrowed_text text)) (sym c.in-Some.is)

pub returns-in-None : goal.returns-in-None
unfolding order_of
returns-in-None c = ap (λ (text : Option (Bor (List ℕ))). value_or Big order_named (borrowed_text text)) (sym c.in-None.is)
