-- The outcomes of `stress`.
use Rattle.std.specs.Prelude.{◌≡◌, ℕ, List, Ok, codes}
use Rattle.support_command_line.specs.Requests.{StressRequest}
use Rattle.program_stress_code.specs.Summary.{measure_text}
use Rattle.semantics_values.specs.States.{State}
use Rattle.program_common.specs.Outcome.{Outcome, text}
use Rattle.program_machine.specs.Inputs.{AnalysisInputs}
use Rattle.program_analyses.specs.Made.{MadeOf, StartOf}
use Rattle.program_analyses.specs.StressSteps.{IsSummary, MeasureOf, StressSteps}

-- it has one at most, over relations too
abbrev pub StressHasOne : Type 0
StressHasOne = (request : StressRequest) (found other : Outcome) → StressSteps request found → StressSteps request other → found ≡ other

-- and at least one
abbrev pub StressHasSome : Type 0
StressHasSome = (request : StressRequest) → (found : Outcome) × StressSteps request found

-- The text is the summary of a stress: of the machine, the code and the entry that are made, of what is measured of their analysis, and of the run of the code.
--
-- The verdict on the table of the analysis is that it is accepted, and so that it is closed. It is true of every run of the code from every state that the entry
-- describes: this is `is_true` of `IsMeasured` (program_domains specs/Measures), to which `is_measured` comes.
pub record IsStress (request : StressRequest) (bytes : List ℕ) : Type 0 where
  pub posed : AnalysisInputs
  pub is_posed : MadeOf request (Ok posed)
  pub start : State
  pub starts : StartOf posed (Ok start)
  pub measured : List ℕ
  pub is_measured : MeasureOf request.base posed (Ok (text measured))
  pub transfers : ℕ
  pub elements : ℕ
  pub accepted : measured ≡ measure_text transfers elements (codes "accepted")
  pub summary : IsSummary request.count posed start measured bytes

-- Where it answers, the text is such a summary.
abbrev pub StressIsAccepted : Type 0
StressIsAccepted = (request : StressRequest) (bytes : List ℕ) → StressSteps request (Ok (text bytes)) → IsStress request bytes
