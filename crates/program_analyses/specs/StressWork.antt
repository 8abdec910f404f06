-- How many transfers a stress makes.
use Rattle.std.specs.Prelude.{◌≡◌, ◌⊎◌, ℕ, ◌≤◌, Some, Ok}
use Rattle.support_command_line.specs.declared.bases.BaseName.{BaseName}
use Rattle.support_command_line.specs.Requests.{StressRequest}
use Rattle.spec_ir.specs.declared.spec.Machine.{Machine}
use Rattle.program_domains.specs.Tasks.{measure}
use Rattle.program_domains.specs.Work.{WorkOf}
use Rattle.program_machine.specs.Inputs.{AnalysisInputs}
use Rattle.program_analyses.specs.Made.{MadeOf}
use Rattle.program_analyses.specs.StressSteps.{problem_made}

-- What is measured of what was made takes as many.
pub record MeasureTakes (base : BaseName) (posed : AnalysisInputs) (old new : ℕ) : Type 0 where
  pub machine : Machine
  pub is_machine : posed.spec.machine ≡ Some machine
  pub work : WorkOf posed.image (measure (problem_made posed machine)) base old new

-- `stress` makes none, or at most N(H + 4) + N transfers, of N code words and elements of the height H.
abbrev pub StressWork : StressRequest → ℕ → ℕ → Type 0
StressWork request old new = (new ≤ old) ⊎ ((posed : AnalysisInputs) × MadeOf request (Ok posed) × MeasureTakes request.base posed old new)
