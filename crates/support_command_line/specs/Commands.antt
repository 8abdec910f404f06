-- The commands, and the options that each takes.
use Rattle.std.specs.Prelude.{ℕ, Bool, true, false, List, [], ◌∷◌, Option, bytes_eq, codes, find}
use Rattle.support_command_line.specs.declared.commands.CommandName.{CommandName}
use Rattle.support_command_line.specs.declared.commands.CommandName.TheVariants as c
use Rattle.support_command_line.specs.declared.options.OptionName.{OptionName}
use Rattle.support_command_line.specs.declared.options.OptionName.TheVariants as o

abbrev pub command_text : CommandName → List ℕ
command_text c.Call = codes "call"
command_text c.Emulate = codes "emulate"
command_text c.Analyse = codes "analyse"
command_text c.Check = codes "check"
command_text c.Convert = codes "convert"
command_text c.List = codes "list"
command_text c.Slice = codes "slice"
command_text c.Claims = codes "claims"
command_text c.Stress = codes "stress"

abbrev pub all_commands : List CommandName
all_commands = c.Call ∷ c.Emulate ∷ c.Analyse ∷ c.Check ∷ c.Convert ∷ c.List ∷ c.Slice ∷ c.Claims ∷ c.Stress ∷ []

abbrev pub command_named : List ℕ → Option CommandName
command_named text = find (λ command. bytes_eq (command_text command) text) all_commands

-- the options of `analyse` and of all that look at a table of its form; how soon an element widens is asked of `analyse` alone
abbrev pub is_of_analysis : OptionName → Bool
is_of_analysis o.At = true
is_of_analysis o.Order = true
is_of_analysis o.Base = true
is_of_analysis o.Limit = true
is_of_analysis o.Cases = true
is_of_analysis o.Open = true
is_of_analysis _ = false

-- The command takes the option.
abbrev pub takes : CommandName → OptionName → Bool
takes c.Call o.Calls = true
takes c.Call _ = false
takes c.Emulate o.At = true
takes c.Emulate o.Order = true
takes c.Emulate o.Steps = true
takes c.Emulate o.Calls = true
takes c.Emulate _ = false
takes c.Analyse o.Widen = true
takes c.Analyse option = is_of_analysis option
takes c.Check option = is_of_analysis option
takes c.Slice option = is_of_analysis option
takes c.Claims option = is_of_analysis option
takes c.Convert o.At = true
takes c.Convert o.Order = true
takes c.Convert o.Base = true
takes c.Convert _ = false
takes c.List o.At = true
takes c.List o.Order = true
takes c.List _ = false
takes c.Stress o.Base = true
takes c.Stress _ = false
