-- The values of the options, each with its form and its default.
use Rattle.std.specs.Prelude.{ℕ, ◌-◌, List, Option, Some, None, option_map}
use Rattle.support_command_line.specs.declared.bases.BaseName.{BaseName}
use Rattle.support_command_line.specs.declared.bases.BaseName.TheVariants.{KSetInterval}
use Rattle.support_command_line.specs.declared.orders.Order as orders
use Rattle.support_command_line.specs.declared.orders.Order.TheVariants.{Big}
use Rattle.support_command_line.specs.Bases.{base_named}
use Rattle.support_command_line.specs.CommandLine.{GivenWords}
use Rattle.support_command_line.specs.Defaults.{default_calls, default_cases, default_joins, default_limit, default_steps}
use Rattle.support_command_line.specs.Numbers.{address_in, decimal_in}
use Rattle.support_command_line.specs.Orders.{order_named}

-- what the text writes, or the default where there is none
abbrev pub value_or : {A : Type 0} → A → (List ℕ → Option A) → Option (List ℕ) → Option A
value_or default read None = Some default
value_or default read (Some text) = read text

-- the base address of the first part of the code
unfoldable pub address_of : GivenWords → Option ℕ
address_of given = value_or 0 address_in given.at

unfoldable pub order_of : GivenWords → Option orders.Order
order_of given = value_or Big order_named given.order

-- how many steps a run has at most
unfoldable pub steps_of : GivenWords → Option ℕ
steps_of given = value_or default_steps (decimal_in 10 0 4294967295) given.steps

-- how many turns an activation has
unfoldable pub calls_of : GivenWords → Option ℕ
calls_of given = value_or default_calls (decimal_in 5 1 65536) given.calls

-- how many values a counter has at most
unfoldable pub limit_of : GivenWords → Option ℕ
limit_of given = value_or default_limit (decimal_in 4 1 4096) given.limit

-- an element is widened from the change of this number at an address on
abbrev pub widened_from : List ℕ → Option ℕ
widened_from text = decimal_in 2 1 64 text

-- how many changes of an element join before later ones widen
unfoldable pub joins_of : GivenWords → Option ℕ
joins_of given = value_or default_joins (λ text. option_map (λ first. first - 1) (widened_from text)) given.widen

-- how often over an element is split
unfoldable pub cases_of : GivenWords → Option ℕ
cases_of given = value_or default_cases (decimal_in 1 0 8) given.cases

unfoldable pub base_of : GivenWords → Option BaseName
base_of given = value_or KSetInterval base_named given.base
