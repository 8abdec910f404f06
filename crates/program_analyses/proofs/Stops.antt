-- How the work on tables may be refused.
use Rattle.std.proofs.Common.{ℕ, List}
use Rattle.std.specs.Prelude.{Err}
use Rattle.support_command_line.specs.declared.bases.BaseName.{BaseName}
use Rattle.support_command_line.specs.Requests.{AnalyseRequest}
use Rattle.program_domains.specs.Tasks as tasks
use Rattle.program_domains.proofs.Verdicts.{MayStop, may_stop}
use Rattle.program_common.specs.Outcome.{Refusal}
use Rattle.program_machine.specs.Inputs.{CodeInputs, AnalysisInputs, SliceInputs}
use Rattle.program_analyses.specs.Problems.{check_task_in, claims_task_in, problem_in, slice_task_in, task_in}
use Rattle.program_analyses.specs.Steps.{AnalysisOf, CheckOf, ClaimsOf, ConversionOf, SliceOf}

pub analysis_stops : (request : AnalyseRequest) (posed : AnalysisInputs) (refusal : Refusal) → AnalysisOf request posed (Err refusal) → MayStop refusal
analysis_stops request posed refusal is =
    may_stop posed.image (task_in request (problem_in request posed is.machine)) request.base refusal is.analysed

pub check_stops : (request : AnalyseRequest) (posed : AnalysisInputs) (bytes : List ℕ) (refusal : Refusal) → CheckOf request posed bytes (Err refusal) → MayStop refusal
check_stops request posed bytes refusal is =
    may_stop posed.image (check_task_in request (problem_in request posed is.machine) bytes) request.base refusal is.checked

pub conversion_stops : (base : BaseName) (coded : CodeInputs) (bytes : List ℕ) (refusal : Refusal) → ConversionOf base coded bytes (Err refusal) → MayStop refusal
conversion_stops base coded bytes refusal is = may_stop coded.image (tasks.convert coded.spec bytes) base refusal is

pub slice_stops : (request : AnalyseRequest) (sought : SliceInputs) (at : ℕ) (bytes : List ℕ) (refusal : Refusal) → SliceOf request sought at bytes (Err refusal) → MayStop refusal
slice_stops request sought at bytes refusal is =
    may_stop sought.posed.image (slice_task_in request (problem_in request sought.posed is.machine) bytes at sought.asked) request.base refusal is.sliced

pub claims_stop : (request : AnalyseRequest) (posed : AnalysisInputs) (bytes claims : List ℕ) (refusal : Refusal) → ClaimsOf request posed bytes claims (Err refusal) → MayStop refusal
claims_stop request posed bytes claims refusal is =
    may_stop posed.image (claims_task_in request (problem_in request posed is.machine) bytes claims) request.base refusal is.claimed
