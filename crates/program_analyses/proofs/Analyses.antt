-- The analysis that the code does is the one that is asked for.
use Rattle.std.proofs.Common.{◌≡◌, ℕ, Some, subst}
use Rattle.std.specs.Prelude.{Result}
use Rattle.support_command_line.specs.Requests.{AnalyseRequest}
use Rattle.spec_ir.specs.declared.spec.Machine.{Machine as Numbers}
use Rattle.program_domains.specs.Named.{Done}
use Rattle.program_domains.specs.Tasks.{Task}
use Rattle.program_domains.specs.Work.{WorkOf}
use Rattle.program_common.specs.declared.outcome.Answer.{Answer}
use Rattle.program_common.specs.declared.outcome.Halt.{Halt}
use Rattle.program_common.specs.Outcomes.{Gives, answer_of}
use Rattle.program_common.proofs.Steps.{gives_too}
use Rattle.program_machine.specs.Inputs.{AnalysisInputs}
use Rattle.program_analyses.specs.Problems.{problem_in, task_in}
use Rattle.program_analyses.specs.Steps.{AnalysisOf}
use Rattle.program_analyses.specs.Work.{AnalysisTakes}

module _ (request : AnalyseRequest) (posed : AnalysisInputs) (machine : Numbers) (task : Task) (is_machine : posed.spec.machine ≡ Some machine) (same : task ≡ task_in request (problem_in request posed machine)) where
  pub gives_analysis : (result : Result Answer Halt) → Gives (Done posed.image task request.base) answer_of result → Gives (AnalysisOf request posed) answer_of result
  gives_analysis result gives =
      gives_too (Done posed.image task request.base) (AnalysisOf request posed) answer_of result
      (λ outcome is. record { machine = machine; is_machine = is_machine; analysed = subst (λ (t : Task). Done posed.image t request.base outcome) same is }) gives

  pub takes_analysis : (old new : ℕ) → WorkOf posed.image task request.base old new → AnalysisTakes request posed old new
  takes_analysis old new work = record { machine = machine; is_machine = is_machine; work = subst (λ (t : Task). WorkOf posed.image t request.base old new) same work }
