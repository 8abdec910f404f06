-- The order of the bytes in a code word.
use Rattle.std.specs.Prelude.{ℕ, List, Option, Some, None, bytes_eq, codes, if◌then◌else◌}
use Rattle.support_command_line.specs.declared.orders.Order.{Order}
use Rattle.support_command_line.specs.declared.orders.Order.TheVariants.{Big, Little}

abbrev pub order_named : List ℕ → Option Order
order_named text = if bytes_eq text (codes "big") then Some Big else (if bytes_eq text (codes "little") then Some Little else None)
