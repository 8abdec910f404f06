-- Steps that give something or nothing, and what the code answers for them.
use Rattle.std.specs.Prelude.{◌≡◌, Option, Some, None, Result, Ok, Err, option_and_then}
use Rattle.support_command_line.specs.declared.words_error.WordsError.{WordsError}
use Rattle.support_command_line.specs.declared.words_error.WordsError.TheVariants.{BadWords, NoMemory}

infixl 10 ◌>>=◌
abbrev pub ◌>>=◌ : {A B : Type 0} → Option A → (A → Option B) → Option B
given >>= next = option_and_then next given

-- The answer, seen so, is what is given, or nothing is given; where memory lasts.
abbrev pub Gives : {A B : Type 0} → Option B → (A → B) → Result A WordsError → Type 0
Gives given seen (Ok found) = given ≡ Some (seen found)
Gives given seen (Err BadWords) = given ≡ None
Gives given seen (Err NoMemory) = Unit {0}
