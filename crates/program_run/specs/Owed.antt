-- What a run owes, and what it comes to.
use Rattle.std.specs.Prelude.{◌≡◌, ℕ, ◌<◌, List, IsTrue, length}
use Rattle.support_io.specs.InputState.{InputState}
use Rattle.program_common.specs.declared.status.Status.{Status}
use Rattle.program_common.specs.Outcome.{Outcome, line_of, status_of}
use Rattle.program_common.specs.Reading.{Gave, Held, Holds}
use Rattle.program_run.specs.Steps.{Steps}
use Rattle.program_run.specs.Words.{has_one_text}
use Rattle.support_command_line.specs.Words.{asked}

-- For these words, where the names hold this, the run owes this outcome.
abbrev pub IsOwed : List (List ℕ) → Held → Outcome → Type 0
IsOwed words held = Steps (Holds held) (asked words)

-- Some outcome that is owed has this status and this line.
pub record Owes (words : List (List ℕ)) (held : Held) (status : Status) (text : List ℕ) : Type 0 where
  pub outcome : Outcome
  pub owed : IsOwed words held outcome
  pub has_status : status ≡ status_of outcome
  pub has_line : text ≡ line_of outcome

-- They are owed, and no other text is owed with this status.
pub record OwesAlone (words : List (List ℕ)) (held : Held) (status : Status) (text : List ℕ) : Type 0 where
  pub owed : Owes words held status text
  pub alone : IsTrue (has_one_text (asked words) status)

-- A text that is owed is longer than this.
pub record OwesLonger (words : List (List ℕ)) (held : Held) (most : ℕ) : Type 0 where
  pub status : Status
  pub text : List ℕ
  pub owed : Owes words held status text
  pub longer : most < length text

-- The run comes to this outcome.
abbrev pub ComesTo : List (List ℕ) → InputState → InputState → Outcome → Type 0
ComesTo words old new = Steps (Gave old new) (asked words)
