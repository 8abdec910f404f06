-- Words that ask for help ask for nothing else.
use Rattle.std.specs.Prelude.{◌≡◌, ℕ, List, IsSome, None}
use Rattle.support_command_line.specs.Words.{asked}
use Rattle.program_help.specs.Help.{told}

-- No words that are a request of the program ask for help.
abbrev pub HelpIsApart : Type 0
HelpIsApart = (words : List (List ℕ)) → IsSome (told words) → asked words ≡ None
