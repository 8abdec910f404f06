-- What a request asks of what was read: a well-posed problem, and a task.
use Rattle.std.proofs.Common.{◌≡◌, ◌≤◌, Bool, List, ℕ, Some, length, refl, subst, sym, true, false}
use Rattle.std.specs.Prelude.{Ok, if◌then◌else◌}
use Rattle.support_command_line.specs.declared.bases.BaseName.{BaseName}
use Rattle.support_command_line.specs.Requests.{AnalyseRequest}
use Rattle.spec_ir.specs.declared.spec.Machine.{Machine as Numbers}
use Rattle.code_image.specs.Image.{Image}
use Rattle.analysis_transfer_laws.specs.Problem.{IsWellFormedProblem, Problem}
use Rattle.program_domains.specs.Laws.{AreOne}
use Rattle.program_domains.specs.Named.{Done}
use Rattle.program_domains.specs.Tasks.{Task, analyse, analyse_open}
use Rattle.program_domains.proofs.Bases.{analyses_are_one, analyses_have_some, open_analyses_are_one, open_analyses_have_some}
use Rattle.program_common.specs.Outcome.{Outcome, text}
use Rattle.program_common.specs.Reading.{Reading}
use Rattle.program_machine.specs.Inputs.{AnalysisInputs, PosedOf}
use Rattle.program_machine.proofs.Problems.{posed_is_well_posed}
use Rattle.program_analyses.specs.Problems.{problem_in}
use Rattle.program_analyses.specs.Steps.{AnalysisOf, OpenTabledBy, TabledBy}

pub read_is_well_posed : (reads : Reading) (request : AnalyseRequest) (posed : AnalysisInputs) (m : Numbers) → length request.code.parts ≤ 16 → PosedOf reads request.spec request.code request.entry (Ok posed)
    → posed.spec.machine ≡ Some m → IsWellFormedProblem (problem_in request posed m)
read_is_well_posed reads request posed m few is is_machine = posed_is_well_posed reads request.spec request.code request.entry posed m request.limit request.joins request.cases few is is_machine

-- ---- one of two tasks

module _ (opened closed : Task) where
  pub closed_is : (b : Bool) → b ≡ false → (if b then opened else closed) ≡ closed
  closed_is true e = absurd (cc)
  closed_is false e = refl

  pub open_is : (b : Bool) → b ≡ true → (if b then opened else closed) ≡ opened
  open_is true e = refl
  open_is false e = absurd (cc)

-- ---- the analysis that is asked for, left open or not

module _ (p : Problem) where
  abbrev pub Either : Bool → Task
  Either b = if b then analyse_open p else analyse p

  module _ (image : Image) (base : BaseName) (posed : IsWellFormedProblem p) where
    pub either_is_one : (b : Bool) (found other : Outcome) → Done image (Either b) base found → Done image (Either b) base other → AreOne base p.spec image found other
    either_is_one true found other h k = open_analyses_are_one image p base found other posed h k
    either_is_one false found other h k = analyses_are_one image p base found other posed h k

    pub either_has_some : (b : Bool) → (found : Outcome) × Done image (Either b) base found
    either_has_some true = open_analyses_have_some image p base posed
    either_has_some false = analyses_have_some image p base posed

module _ (request : AnalyseRequest) (posed : AnalysisInputs) (bytes : List ℕ) where
  pub is_tabled : request.open ≡ false → AnalysisOf request posed (Ok (text bytes)) → TabledBy request posed bytes
  is_tabled closed is = record {
    machine = is.machine;
    is_machine = is.is_machine;
    analysed = subst (λ (task : Task). Done posed.image task request.base (Ok (text bytes))) (closed_is (analyse_open (problem_in request posed is.machine)) (analyse (problem_in request posed is.machine)) request.open closed) is.analysed;
  }

  pub is_open_tabled : request.open ≡ true → AnalysisOf request posed (Ok (text bytes)) → OpenTabledBy request posed bytes
  is_open_tabled opened is = record {
    machine = is.machine;
    is_machine = is.is_machine;
    analysed = subst (λ (task : Task). Done posed.image task request.base (Ok (text bytes))) (open_is (analyse_open (problem_in request posed is.machine)) (analyse (problem_in request posed is.machine)) request.open opened) is.analysed;
  }

  -- and back
  pub tabled_is : request.open ≡ false → TabledBy request posed bytes → AnalysisOf request posed (Ok (text bytes))
  tabled_is closed is = record {
    machine = is.machine;
    is_machine = is.is_machine;
    analysed = subst (λ (task : Task). Done posed.image task request.base (Ok (text bytes))) (sym (closed_is (analyse_open (problem_in request posed is.machine)) (analyse (problem_in request posed is.machine)) request.open closed)) is.analysed;
  }

  pub open_tabled_is : request.open ≡ true → OpenTabledBy request posed bytes → AnalysisOf request posed (Ok (text bytes))
  open_tabled_is opened is = record {
    machine = is.machine;
    is_machine = is.is_machine;
    analysed = subst (λ (task : Task). Done posed.image task request.base (Ok (text bytes))) (sym (open_is (analyse_open (problem_in request posed is.machine)) (analyse (problem_in request posed is.machine)) request.open opened)) is.analysed;
  }
