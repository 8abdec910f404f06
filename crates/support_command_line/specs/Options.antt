-- The options of all commands.
use Rattle.std.specs.Prelude.{ℕ, Bool, true, false, List, [], ◌∷◌, codes}
use Rattle.support_command_line.specs.declared.options.OptionName.{OptionName}
use Rattle.support_command_line.specs.declared.options.OptionName.TheVariants as o

-- the name that stands after `--`
abbrev pub option_text : OptionName → List ℕ
option_text o.At = codes "at"
option_text o.Order = codes "order"
option_text o.Steps = codes "steps"
option_text o.Calls = codes "calls"
option_text o.Limit = codes "limit"
option_text o.Base = codes "base"
option_text o.Widen = codes "widen"
option_text o.Cases = codes "cases"
option_text o.Open = codes "open"

-- It takes a value; any other is a flag.
abbrev pub has_value : OptionName → Bool
has_value o.Open = false
has_value _ = true

abbrev pub all_options : List OptionName
all_options = o.At ∷ o.Order ∷ o.Steps ∷ o.Calls ∷ o.Limit ∷ o.Base ∷ o.Widen ∷ o.Cases ∷ o.Open ∷ []
