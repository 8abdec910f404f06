-- The exit status of the program.
use Rattle.std.specs.Prelude.{ℕ, Result, Ok, Err}
use Rattle.std.specs.declared.io.ErrorKind.{ErrorKind}
use Rattle.std.specs.declared.io.ErrorKind.TheVariants.{OutOfMemory}
use Rattle.program_common.specs.declared.status.Status.{Status}
use Rattle.program_help.specs.declared.help_error.HelpError.{HelpError}
use Rattle.program_help.specs.declared.help_error.HelpError.TheVariants as help
use Rattle.program_common.specs.declared.status.Status.TheVariants as status
use Rattle.program_common.specs.declared.status.Status.TheVariants.{NoMemory}
use Rattle.program_common.specs.Statuses.{exit_status}

-- the status of a run; where there was no memory for the words, the same as of a run without memory; else that a word is no text
abbrev pub code_of : Result Status ErrorKind → ℕ
code_of (Ok status) = exit_status status
code_of (Err OutOfMemory) = exit_status NoMemory
code_of (Err _) = 70

-- the status where a text of help was asked for
abbrev pub status_of_help : Result (Unit {0}) HelpError → Status
status_of_help (Ok told) = status.Ok
status_of_help (Err help.WriteFault) = status.WriteFault
status_of_help (Err help.NoMemory) = status.NoMemory
