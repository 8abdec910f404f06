-- What the functions of the code give.
use Rattle.std.proofs.Common.{◌≡◌, ◌∙◌, ℕ, ◌+◌, List, [], ◌∷◌, Some, ap, subst, refl}
use Rattle.std.specs.Prelude.{Result, Ok, Err, IfOk, IsSome}
use Rattle.support_command_line.specs.declared.bases.BaseName.{BaseName}
use Rattle.support_command_line.specs.Requests.{StressRequest}
use Rattle.spec_ir.specs.declared.spec.SpecUse.TheVariants.{Machine}
use Rattle.spec_ir.specs.Specification.{Spec}
use Rattle.code_image.specs.declared.order.Order.TheVariants.{Big}
use Rattle.code_image.specs.Image.{Image, code_at}
use Rattle.state_text.specs.Reading.{Entry}
use Rattle.state_text.specs.Stops.{stop_name}
use Rattle.program_stress_code.specs.Entry.{entry_text, start_text}
use Rattle.program_stress_code.specs.Summary.{summary_text}
use Rattle.semantics_values.specs.States.{State}
use Rattle.concrete_emulator.specs.declared.runs.EmulatedRun.{EmulatedRun}
use Rattle.concrete_emulator.specs.Ends.{IsEmulated}
use Rattle.program_domain_tasks.specs.Read.{IsTextOf}
use Rattle.program_common.specs.declared.outcome.Halt.{Halt}
use Rattle.program_common.specs.Outcome.{Answer, Outcome, Refusal, calls_ended, text, undecodable}
use Rattle.program_common.specs.Outcomes.{Gives, Stops}
use Rattle.program_common.specs.Shipped.{power_pc_text}
use Rattle.program_common.specs.Sources.{Specifies}
use Rattle.program_common.specs.Steps.{Then, goes_on}
use Rattle.program_common.proofs.Steps.{first_stops, next_stops}
use Rattle.program_machine.specs.Code.{Images}
use Rattle.program_machine.specs.Entry.{StartsFrom}
use Rattle.program_machine.specs.Running.{end_of}
use Rattle.program_machine.specs.AnalysisEntry.{Enters}
use Rattle.program_machine.specs.Inputs.{AnalysisInputs}
use Rattle.program_machine.proofs.Problems.{some_machine}
use Rattle.program_analyses.specs.Made.{MadeOf, StartOf, made_code}
use Rattle.program_analyses.specs.StressSteps.{MeasureOf, StressSteps, SummaryOf, stress_turns}

-- ---- what is made

module _ (request : StressRequest) where
  abbrev AfterImage : Spec → Image → Result AnalysisInputs Refusal → Type 0
  AfterImage spec image = Then (Enters spec entry_text) (λ entry found. found ≡ Ok (record { spec = spec; image = image; entry = entry }))

  abbrev AfterSpec : Spec → Result AnalysisInputs Refusal → Type 0
  AfterSpec spec = Then (Images Big (made_code request ∷ [])) (AfterImage spec)

  pub no_spec : (halt : Halt) → Stops (Specifies Machine power_pc_text) halt → Stops (MadeOf request) halt
  no_spec halt = first_stops (Specifies Machine power_pc_text) AfterSpec halt

  pub no_image : (spec : Spec) (halt : Halt) → Specifies Machine power_pc_text (Ok spec) → Stops (Images Big (made_code request ∷ [])) halt → Stops (MadeOf request) halt
  no_image spec halt is stops =
      next_stops (Specifies Machine power_pc_text) AfterSpec spec halt is (first_stops (Images Big (made_code request ∷ [])) (AfterImage spec) halt stops)

  pub no_entry_made : (spec : Spec) (image : Image) (halt : Halt) → Specifies Machine power_pc_text (Ok spec) → Images Big (made_code request ∷ []) (Ok image) → Stops (Enters spec entry_text) halt → Stops (MadeOf request) halt
  no_entry_made spec image halt is is_image stops =
      next_stops (Specifies Machine power_pc_text) AfterSpec spec halt is
      (next_stops (Images Big (made_code request ∷ [])) (AfterImage spec) image halt is_image
      (first_stops (Enters spec entry_text) (λ entry found. found ≡ Ok (record { spec = spec; image = image; entry = entry })) halt stops))

  pub all_made : (spec : Spec) (image : Image) (entry : Entry) → Specifies Machine power_pc_text (Ok spec) → Images Big (made_code request ∷ []) (Ok image) → Enters spec entry_text (Ok entry)
      → MadeOf request (Ok (record { spec = spec; image = image; entry = entry }))
  all_made spec image entry is is_image is_entry = goes_on is (goes_on is_image (goes_on is_entry refl))

  -- ---- the whole

  abbrev AfterStart : AnalysisInputs → State → Outcome → Type 0
  AfterStart posed start = Then (MeasureOf request.base posed) (SummaryOf request.count posed start)

  abbrev AfterMade : AnalysisInputs → Outcome → Type 0
  AfterMade posed = Then (StartOf posed) (AfterStart posed)

  pub no_posed : (halt : Halt) → Stops (MadeOf request) halt → Stops (StressSteps request) halt
  no_posed halt = first_stops (MadeOf request) AfterMade halt

  pub no_start : (posed : AnalysisInputs) (halt : Halt) → MadeOf request (Ok posed) → Stops (StartOf posed) halt → Stops (StressSteps request) halt
  no_start posed halt made stops = next_stops (MadeOf request) AfterMade posed halt made (first_stops (StartOf posed) (AfterStart posed) halt stops)

  pub no_measure : (posed : AnalysisInputs) (start : State) (halt : Halt) → MadeOf request (Ok posed) → StartOf posed (Ok start) → Stops (MeasureOf request.base posed) halt → Stops (StressSteps request) halt
  no_measure posed start halt made starts stops =
      next_stops (MadeOf request) AfterMade posed halt made
      (next_stops (StartOf posed) (AfterStart posed) start halt starts (first_stops (MeasureOf request.base posed) (SummaryOf request.count posed start) halt stops))

  pub summed : (posed : AnalysisInputs) (start : State) (answer : Answer) (outcome : Outcome) → MadeOf request (Ok posed) → StartOf posed (Ok start) → MeasureOf request.base posed (Ok answer)
      → SummaryOf request.count posed start answer outcome → StressSteps request outcome
  summed posed start answer outcome made starts measured sums = goes_on made (goes_on starts (goes_on measured sums))

-- what is measured is a text
pub measured_is_text : (base : BaseName) (posed : AnalysisInputs) (answer : Answer) → MeasureOf base posed (Ok answer) → IsTextOf (λ lines. Unit {0}) answer
measured_is_text base posed (text lines) is = tt
measured_is_text base posed (undecodable lines) is = is.measured
measured_is_text base posed (calls_ended lines) is = is.measured

-- what is told of the end of a run
pub run_summed : (count : ℕ) (posed : AnalysisInputs) (start : State) (measured bytes : List ℕ) (e : EmulatedRun) → IsSome posed.spec.machine → IsEmulated posed.spec (code_at posed.image) stress_turns (count + 1) start e
    → bytes ≡ summary_text count measured e.done (stop_name e.stop) → SummaryOf count posed start (text measured) (Ok (text bytes))
run_summed count posed start measured bytes e some emulated told =
    let m = some_machine posed.spec.machine some in
    let end = emulated m.0 m.1 in
    record { machine = m.0; is_machine = m.1; stop = e.stop; why = end.stop; told = told ∙ ap (λ (n : ℕ). summary_text count measured n (stop_name e.stop)) end.done }
