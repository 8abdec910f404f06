-- What holds of what is owed, and of how a run ends.
use Rattle.std.specs.Prelude.{◌≡◌, ◌≢◌, ◌⊎◌, ℕ, List, [], Ok, Err, Option, Some, IsTrue}
use Rattle.support_io.specs.Faults.{RoseByOne}
use Rattle.support_io.specs.InputState.{InputState}
use Rattle.support_io.specs.SinkState.{SinkState}
use Rattle.program_common.specs.declared.status.Status.{Status}
use Rattle.program_common.specs.declared.status.Status.TheVariants as s
use Rattle.program_common.specs.Outcome.{Refusal, line_of}
use Rattle.support_command_line.specs.Requests.{Request, analyse, convert}
use Rattle.support_command_line.specs.Words.{asked}
use Rattle.program_domains.specs.Laws.{AreTextsOfOne}
use Rattle.program_run.specs.Exact.{IsExact}
use Rattle.program_run.specs.Follows.{Follows}
use Rattle.program_run.specs.Output.{Ends}
use Rattle.program_common.specs.Reading.{Held, Holds}
use Rattle.program_machine.specs.Inputs.{CodeInputs, CodedOf, AnalysisInputs, PosedOf}
use Rattle.program_run.specs.Owed.{Owes}
use Rattle.program_run.specs.Possible.{IsPossible}
use Rattle.program_run.specs.Words.{has_one_text}

-- The two texts are one; where a table is asked for, both may be texts of one table of the specification and the code that are held.
abbrev pub TellTheSame : Held → Option Request → List ℕ → List ℕ → Type 0
TellTheSame held (Some (analyse request)) text line =
    (text ≡ line) ⊎ ((posed : AnalysisInputs) × PosedOf (Holds held) request.spec request.code request.entry (Ok posed) × AreTextsOfOne request.base posed.spec posed.image text line)
TellTheSame held (Some (convert request)) text line =
    (text ≡ line) ⊎ ((coded : CodeInputs) × CodedOf (Holds held) request.spec request.code (Ok coded) × AreTextsOfOne request.base coded.spec coded.image text line)
TellTheSame held _ text line = text ≡ line

-- One status is owed at most, and one text with it, but of a table over relations. Of such a table all texts tell that one table.
abbrev pub OneAnswer : Type 0
OneAnswer = (words : List (List ℕ)) (held : Held) (status other : Status) (text line : List ℕ)
    → Owes words held status text → Owes words held other line
    → (status ≡ other) × (IsTrue (has_one_text (asked words) status) → text ≡ line) × TellTheSame held (asked words) text line

-- and at least one
abbrev pub SomeAnswer : Type 0
SomeAnswer = (words : List (List ℕ)) (held : Held) → (status : Status) × (text : List ℕ) × Owes words held status text

-- what follows for a run of which `run` says how it ends, and that a fault of writing was counted
abbrev pub EndsFollow : Type 0
EndsFollow = (words : List (List ℕ)) (old new : InputState) (sink_old sink_new : SinkState) (result : Status)
    → Ends words old new sink_old sink_new result → (result ≡ s.WriteFault → RoseByOne sink_old.faults sink_new.faults)
    → Follows words old new sink_old sink_new result

-- and where one text is owed
abbrev pub ExactAnswers : Type 0
ExactAnswers = (words : List (List ℕ)) (old new : InputState) (sink_old sink_new : SinkState) (result : Status)
    → Follows words old new sink_old sink_new result → IsExact words old new sink_old sink_new result

-- The line of a refusal that is possible is not the empty one.
abbrev pub RefusalsHaveLines : Type 0
RefusalsHaveLines = (what : Option Request) (refusal : Refusal) → IsPossible what (Err refusal) → line_of (Err refusal) ≢ []
