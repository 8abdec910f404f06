-- The command line as `clap` sees it: one simple command, whose definition says which words it takes and what they give.
use Rattle.std.specs.Prelude.{ℕ, Bool, true, false, List, [], Option, Some, None, bytes_eq, codes, fold, if◌then◌else◌, is_some, unwrap_or}
use Rattle.std.specs.Option.{option_map_or}
use Rattle.clap.specs.Words.{App, Row, Rule, all_of, fault_of, first_of, matches_of, new_app, new_rule, with_rule}
use Rattle.clap.specs.Simple.{on_top}
use Rattle.clap.specs.Walk.{is_empty}
use Rattle.clap.specs.declared.builder.action.ArgAction.TheVariants.{Append, SetTrue}
use Rattle.support_command_line.specs.declared.options.OptionName.{OptionName}
use Rattle.support_command_line.specs.declared.options.OptionName.TheVariants as o
use Rattle.support_command_line.specs.Options.{all_options, has_value, option_text}

-- a command without arguments: its words are those after the program's name, and it has no flag for help or a version
abbrev pub bare_line : App
bare_line = on_top (λ shape. record shape { no_binary_name = true; disable_help_flag = true; disable_version_flag = true }) (new_app (codes "tsl_cli"))

-- a flag, which `clap` finds with the value `true` where it is given, and `false` where it is not
abbrev pub flag_rule : OptionName → Rule
flag_rule name = record (new_rule (option_text name)) { long = Some (option_text name); action = Some SetTrue }

-- an option that takes one value
abbrev pub value_rule : OptionName → Rule
value_rule name = record (new_rule (option_text name)) { long = Some (option_text name) }

abbrev pub option_rule : OptionName → Rule
option_rule name = if has_value name then value_rule name else flag_rule name

-- the first positional word: the command's name
abbrev pub command_rule : Rule
command_rule = new_rule (codes "command")

-- all other positional words
abbrev pub words_rule : Rule
words_rule = record (new_rule (codes "words")) { action = Some Append }

abbrev pub command_line : App
command_line = with_rule (with_rule (fold (λ line name. with_rule line (option_rule name)) bare_line all_options) command_rule) words_rule

-- what words give: the command's name, the positional words after it, the value of each option, and each flag
pub record GivenWords : Type 0 where
  pub command : Option (List ℕ)
  pub words : List (List ℕ)
  pub at : Option (List ℕ)
  pub order : Option (List ℕ)
  pub steps : Option (List ℕ)
  pub calls : Option (List ℕ)
  pub limit : Option (List ℕ)
  pub base : Option (List ℕ)
  pub widen : Option (List ℕ)
  pub cases : Option (List ℕ)
  pub «open» : Bool

-- a flag is given
abbrev pub flag_of : List ℕ → List Row → Bool
flag_of name rows = option_map_or (λ text. bytes_eq text (codes "true")) (first_of name rows) false

abbrev pub given_by : List Row → GivenWords
given_by rows = record {
  command = first_of (codes "command") rows;
  words = unwrap_or (all_of (codes "words") rows) [];
  at = first_of (option_text o.At) rows;
  order = first_of (option_text o.Order) rows;
  steps = first_of (option_text o.Steps) rows;
  calls = first_of (option_text o.Calls) rows;
  limit = first_of (option_text o.Limit) rows;
  base = first_of (option_text o.Base) rows;
  widen = first_of (option_text o.Widen) rows;
  cases = first_of (option_text o.Cases) rows;
  «open» = flag_of (option_text o.Open) rows;
}

-- The option is given.
abbrev pub is_given : GivenWords → OptionName → Bool
is_given given o.At = is_some given.at
is_given given o.Order = is_some given.order
is_given given o.Steps = is_some given.steps
is_given given o.Calls = is_some given.calls
is_given given o.Limit = is_some given.limit
is_given given o.Base = is_some given.base
is_given given o.Widen = is_some given.widen
is_given given o.Cases = is_some given.cases
is_given given o.Open = given.open

-- what the words give, where the command takes them
unfoldable pub given_in : List (List ℕ) → Option GivenWords
given_in words = if is_empty (fault_of command_line words) then Some (given_by (matches_of command_line words)) else None
