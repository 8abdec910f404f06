-- The work on a table that the code does is the work that is asked for, of a table that may be left open or not.
use Rattle.std.proofs.Common.{◌≡◌, ℕ, Bool, List, Some, false, true, subst}
use Rattle.std.specs.Prelude.{Result, if◌then◌else◌}
use Rattle.support_command_line.specs.Requests.{AnalyseRequest}
use Rattle.spec_ir.specs.declared.spec.Machine.{Machine as Numbers}
use Rattle.text_slices.specs.declared.slice_cell.SliceCell.{SliceCell}
use Rattle.program_domains.specs.Named.{Done}
use Rattle.program_domains.specs.Tasks.{Task, check, check_open, claims, claims_open, slice, slice_open}
use Rattle.program_domains.specs.Work.{WorkOf}
use Rattle.program_common.specs.declared.outcome.Answer.{Answer}
use Rattle.program_common.specs.declared.outcome.Halt.{Halt}
use Rattle.program_common.specs.Outcomes.{Gives, answer_of}
use Rattle.program_common.proofs.Steps.{gives_too}
use Rattle.program_machine.specs.Inputs.{AnalysisInputs, SliceInputs}
use Rattle.program_analyses.specs.Problems.{check_task_in, claims_task_in, problem_in, slice_task_in}
use Rattle.program_analyses.specs.Steps.{CheckOf, ClaimsOf, SliceOf}
use Rattle.program_analyses.specs.Work.{CheckTakes, TableTakes}

-- ---- how many transfers it takes

module _ (request : AnalyseRequest) (posed : AnalysisInputs) (machine : Numbers) (bytes : List ℕ) (old new : ℕ) where
  check_work : (b : Bool) → WorkOf posed.image (if b then check_open (problem_in request posed machine) bytes else check (problem_in request posed machine) bytes) request.base old new
      → TableTakes b request.base posed bytes old new
  check_work true work = work
  check_work false work = work

  slice_work : (at : ℕ) (asked : SliceCell) (b : Bool)
      → WorkOf posed.image (if b then slice_open (problem_in request posed machine) bytes at asked else slice (problem_in request posed machine) bytes at asked) request.base old new
      → TableTakes b request.base posed bytes old new
  slice_work at asked true work = work
  slice_work at asked false work = work

  claims_work : (list : List ℕ) (b : Bool)
      → WorkOf posed.image (if b then claims_open (problem_in request posed machine) bytes list else claims (problem_in request posed machine) bytes list) request.base old new
      → TableTakes b request.base posed bytes old new
  claims_work list true work = work
  claims_work list false work = work

-- ---- the check

module _ (request : AnalyseRequest) (posed : AnalysisInputs) (machine : Numbers) (is_machine : posed.spec.machine ≡ Some machine) (bytes : List ℕ)
    (task : Task) (same : task ≡ check_task_in request (problem_in request posed machine) bytes) where
  pub gives_check : (result : Result Answer Halt) → Gives (Done posed.image task request.base) answer_of result → Gives (CheckOf request posed bytes) answer_of result
  gives_check result gives =
      gives_too (Done posed.image task request.base) (CheckOf request posed bytes) answer_of result
      (λ outcome is. record { machine = machine; is_machine = is_machine; checked = subst (λ (t : Task). Done posed.image t request.base outcome) same is }) gives

  pub takes_check : (old new : ℕ) → WorkOf posed.image task request.base old new → CheckTakes request posed bytes old new
  takes_check old new work = check_work request posed machine bytes old new request.open (subst (λ (t : Task). WorkOf posed.image t request.base old new) same work)

-- ---- the slice

module _ (request : AnalyseRequest) (sought : SliceInputs) (machine : Numbers) (is_machine : sought.posed.spec.machine ≡ Some machine) (bytes : List ℕ) (at : ℕ)
    (task : Task) (same : task ≡ slice_task_in request (problem_in request sought.posed machine) bytes at sought.asked) where
  pub gives_slice : (result : Result Answer Halt) → Gives (Done sought.posed.image task request.base) answer_of result → Gives (SliceOf request sought at bytes) answer_of result
  gives_slice result gives =
      gives_too (Done sought.posed.image task request.base) (SliceOf request sought at bytes) answer_of result
      (λ outcome is. record { machine = machine; is_machine = is_machine; sliced = subst (λ (t : Task). Done sought.posed.image t request.base outcome) same is }) gives

  pub takes_slice : (old new : ℕ) → WorkOf sought.posed.image task request.base old new → CheckTakes request sought.posed bytes old new
  takes_slice old new work =
      slice_work request sought.posed machine bytes old new at sought.asked request.open (subst (λ (t : Task). WorkOf sought.posed.image t request.base old new) same work)

-- ---- claims

module _ (request : AnalyseRequest) (posed : AnalysisInputs) (machine : Numbers) (is_machine : posed.spec.machine ≡ Some machine) (bytes list : List ℕ)
    (task : Task) (same : task ≡ claims_task_in request (problem_in request posed machine) bytes list) where
  pub gives_claims : (result : Result Answer Halt) → Gives (Done posed.image task request.base) answer_of result → Gives (ClaimsOf request posed bytes list) answer_of result
  gives_claims result gives =
      gives_too (Done posed.image task request.base) (ClaimsOf request posed bytes list) answer_of result
      (λ outcome is. record { machine = machine; is_machine = is_machine; claimed = subst (λ (t : Task). Done posed.image t request.base outcome) same is }) gives

  pub takes_claims : (old new : ℕ) → WorkOf posed.image task request.base old new → CheckTakes request posed bytes old new
  takes_claims old new work = claims_work request posed machine bytes old new list request.open (subst (λ (t : Task). WorkOf posed.image t request.base old new) same work)
