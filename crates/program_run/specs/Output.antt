-- How a run ends.
use Rattle.std.specs.Prelude.{◌≡◌, ℕ, ◌<◌, List, length}
use Rattle.support_io.specs.InputState.{InputState}
use Rattle.support_io.specs.SinkState.{SinkState, Appends, AppendsFront}
use Rattle.program_common.specs.declared.status.Status.{Status}
use Rattle.program_common.specs.declared.status.Status.TheVariants as s
use Rattle.program_common.specs.Outcome.{Outcome, line_of, status_of}
use Rattle.program_run.specs.Owed.{ComesTo}

-- The run comes to an outcome and writes its line; or the line has no room, and a front of it is written; or memory runs out.
pub data Ends (words : List (List ℕ)) (old new : InputState) (sink_old sink_new : SinkState) (result : Status) : Type 0 where
  written : (outcome : Outcome) → ComesTo words old new outcome → result ≡ status_of outcome → Appends sink_old sink_new (line_of outcome)
      → Ends words old new sink_old sink_new result
  cut : (outcome : Outcome) → ComesTo words old new outcome → result ≡ s.WriteFault → sink_old.room < length (line_of outcome)
      → AppendsFront sink_old sink_new (line_of outcome) → Ends words old new sink_old sink_new result
  no_memory : result ≡ s.NoMemory → Ends words old new sink_old sink_new result
