-- The steps of `stress`.
use Rattle.std.specs.Prelude.{◌≡◌, ℕ, ◌+◌, List, Some, Ok}
use Rattle.support_command_line.specs.declared.bases.BaseName.{BaseName}
use Rattle.support_command_line.specs.Defaults.{default_calls, default_cases, default_joins, default_limit}
use Rattle.support_command_line.specs.Requests.{StressRequest}
use Rattle.spec_ir.specs.declared.spec.Machine.{Machine}
use Rattle.state_text.specs.declared.stop.Stop.{Stop}
use Rattle.state_text.specs.Stops.{stop_name}
use Rattle.program_stress_code.specs.Summary.{summary_text}
use Rattle.semantics_values.specs.States.{State}
use Rattle.concrete_emulator.specs.Ends.{stop_at}
use Rattle.analysis_problems.specs.Problems.{problem_of}
use Rattle.analysis_transfer_laws.specs.Problem.{Problem}
use Rattle.program_domains.specs.Named.{Measured}
use Rattle.program_common.specs.Outcome.{Answer, Outcome, text}
use Rattle.program_common.specs.Steps.{Then}
use Rattle.program_machine.specs.Running.{end_of}
use Rattle.program_machine.specs.Inputs.{AnalysisInputs}
use Rattle.program_analyses.specs.Made.{MadeOf, StartOf}

-- how many targets an instruction may have, how many changes of an element join before later ones widen, how often over an element is split, and how
-- many turns an activation has: as many as where no option says
abbrev pub stress_limit : ℕ
stress_limit = default_limit

abbrev pub stress_joins : ℕ
stress_joins = default_joins

abbrev pub stress_cases : ℕ
stress_cases = default_cases

abbrev pub stress_turns : ℕ
stress_turns = default_calls

-- the problem of what was made
abbrev pub problem_made : AnalysisInputs → Machine → Problem
problem_made posed machine = problem_of posed.spec machine posed.image posed.entry stress_limit stress_joins stress_cases

-- What is measured of its analysis over a base.
pub record MeasureOf (base : BaseName) (posed : AnalysisInputs) (outcome : Outcome) : Type 0 where
  pub machine : Machine
  pub is_machine : posed.spec.machine ≡ Some machine
  pub measured : Measured posed.image (problem_made posed machine) base outcome

-- The bytes tell this of the analysis, and of the run of the code: how many steps it takes, of which it may take one more than it has words, and why it ends.
pub record IsSummary (count : ℕ) (posed : AnalysisInputs) (start : State) (measured bytes : List ℕ) : Type 0 where
  pub machine : Machine
  pub is_machine : posed.spec.machine ≡ Some machine
  pub stop : Stop
  pub why : stop_at (end_of posed.spec machine posed.image stress_turns (count + 1) start).state.pc (end_of posed.spec machine posed.image stress_turns (count + 1) start).stop ≡ Some stop
  pub told : bytes ≡ summary_text count measured (end_of posed.spec machine posed.image stress_turns (count + 1) start).done (stop_name stop)

-- Behind the lines that were measured.
abbrev pub SummaryOf : ℕ → AnalysisInputs → State → Answer → Outcome → Type 0
SummaryOf count posed start (text measured) (Ok (text bytes)) = IsSummary count posed start measured bytes
SummaryOf count posed start _ _ = ⊥

-- `stress`: the specification, the code and the entry are made and examined, one after another; the code is analysed, and its table checked; the code runs; what is
-- told of both is written
abbrev pub StressSteps : StressRequest → Outcome → Type 0
StressSteps request =
    Then (MadeOf request) (λ posed.
    Then (StartOf posed) (λ start.
    Then (MeasureOf request.base posed) (SummaryOf request.count posed start)))
