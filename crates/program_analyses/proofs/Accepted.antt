-- Where a check answers, the table is accepted.
use Rattle.std.proofs.Common.{◌≡◌, ℕ, Bool, List, false, subst, true}
use Rattle.std.specs.Prelude.{Ok}
use Rattle.support_command_line.specs.Requests.{AnalyseRequest}
use Rattle.program_domains.specs.Checks.{accepted_line}
use Rattle.program_domains.specs.Named.{Checked, CheckedOpen, Done}
use Rattle.program_domains.specs.Tasks.{Task, check, check_open}
use Rattle.program_domains.proofs.OpenReadings.{open_answers_accept}
use Rattle.program_domains.proofs.Verdicts.{answers_accept}
use Rattle.program_common.specs.Outcome.{text}
use Rattle.program_machine.specs.Inputs.{AnalysisInputs}
use Rattle.program_analyses.specs.Problems.{problem_in}
use Rattle.program_analyses.specs.Steps.{AcceptedBy, CheckOf, OpenAcceptedBy}
use Rattle.program_analyses.proofs.Problems.{closed_is, open_is}

module _ (request : AnalyseRequest) (posed : AnalysisInputs) (bytes line : List ℕ) where
  pub check_accepts : request.open ≡ false → CheckOf request posed bytes (Ok (text line)) → AcceptedBy request posed bytes × (line ≡ accepted_line)
  check_accepts closed is =
      let p = problem_in request posed is.machine in
      let checked : Checked posed.image p request.base bytes (Ok (text line)) =
      subst (λ (task : Task). Done posed.image task request.base (Ok (text line))) (closed_is (check_open p bytes) (check p bytes) request.open closed) is.checked in
      let found = answers_accept posed.image p request.base bytes (text line) checked in
      let same : text line ≡ text accepted_line = found.1 in
      (record { machine = is.machine; is_machine = is.is_machine; accepted = found.0 }, cc)

  -- So it is where the table may be left open.
  pub open_check_accepts : request.open ≡ true → CheckOf request posed bytes (Ok (text line)) → OpenAcceptedBy request posed bytes × (line ≡ accepted_line)
  open_check_accepts opened is =
      let p = problem_in request posed is.machine in
      let checked : CheckedOpen posed.image p request.base bytes (Ok (text line)) =
      subst (λ (task : Task). Done posed.image task request.base (Ok (text line))) (open_is (check_open p bytes) (check p bytes) request.open opened) is.checked in
      let found = open_answers_accept posed.image p request.base bytes (text line) checked in
      let same : text line ≡ text accepted_line = found.1 in
      (record { machine = is.machine; is_machine = is.is_machine; accepted = found.0 }, cc)
