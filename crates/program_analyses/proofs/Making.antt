-- What is made is a well-posed problem.
use Rattle.std.proofs.Common.{◌≡◌, ℕ, ◌<◌, ◌^◌, List, [], ◌∷◌, Option, Some, None, length, refl, sym, subst, arith}
use Rattle.std.specs.Prelude.{IfOk, IsSome, Result, Ok, Err}
use Rattle.support_command_line.specs.Requests.{StressRequest}
use Rattle.spec_ir.specs.declared.spec.Machine.{Machine as Numbers}
use Rattle.spec_ir.specs.declared.spec.Spec.{Spec as Checked}
use Rattle.spec_ir.specs.declared.spec.SpecUse.TheVariants.{Machine}
use Rattle.spec_ir.specs.Specification.{Spec}
use Rattle.spec_ir.specs.Views.{specification}
use Rattle.code_image.specs.declared.image_error.ImageError.{ImageError}
use Rattle.code_image.specs.declared.order.Order.TheVariants.{Big}
use Rattle.code_image.specs.Faults.{IsImage, image_fault}
use Rattle.code_image.specs.Image.{Image, Segment, image_of}
use Rattle.code_image.proofs.Addresses.{addresses_are_those_of_words}
use Rattle.domain_laws.specs.States.{state_type}
use Rattle.analysis_problems.proofs.CheckedStates.{fields_have_numbers}
use Rattle.concrete_emulator.specs.Ends.{IsStateOf}
use Rattle.semantics_laws.specs.Accepted.{IsAccepted}
use Rattle.analysis_problems.specs.Problems.{problem_of}
use Rattle.analysis_problems.proofs.WellPosed.{read_problems_are_well_posed}
use Rattle.program_stress_code.specs.Entry.{entry_text}
use Rattle.analysis_transfer_laws.specs.Problem.{IsWellFormedProblem}
use Rattle.semantics_values.specs.States.{State}
use Rattle.program_common.specs.declared.outcome.Halt.{Halt}
use Rattle.program_common.specs.Outcomes.{Gives}
use Rattle.program_common.specs.Shipped.{power_pc_text}
use Rattle.program_common.specs.Sources.{IsSpecification, Specifies}
use Rattle.program_common.specs.Steps.{goes_on}
use Rattle.program_common.proofs.Steps.{opened}
use Rattle.program_machine.specs.Code.{Images, imaged}
use Rattle.program_machine.specs.Entry.{StartsFrom}
use Rattle.program_machine.proofs.Giving.{specified_accepted, specified_machine}
use Rattle.program_machine.proofs.Typing.{start_typed}
use Rattle.program_machine.specs.AnalysisEntry.{Enters}
use Rattle.program_machine.specs.Inputs.{AnalysisInputs}
use Rattle.program_machine.proofs.Images.{are_segments}
use Rattle.program_machine.proofs.Problems.{text_entry}
use Rattle.program_analyses.specs.Made.{MadeOf, made_code}

-- ---- an image of one segment

one_segment : (s : Segment) → image_fault (s ∷ []) ≡ None → IsImage (image_of Big (s ∷ []))
one_segment s none = record { segments = are_segments (s ∷ []) none; few = omega arith }

made_image_by : (s : Segment) (image : Image) (fault : Option ImageError) → image_fault (s ∷ []) ≡ fault → Ok image ≡ imaged Big (s ∷ []) fault → IsImage image
made_image_by s image None none is =
    let same : image_of Big (s ∷ []) ≡ image = cc in
    subst IsImage same (one_segment s none)
made_image_by s image (Some e) faulty is = absurd (cc)

pub made_image : (s : Segment) (image : Image) → Images Big (s ∷ []) (Ok image) → IsImage image
made_image s image is = made_image_by s image (image_fault (s ∷ [])) refl is

-- ---- the specification

few_fields : (source : List ℕ) (spec : Spec) → IsSpecification Machine source spec → length (state_type spec).fields < 2 ^ 32
few_fields source spec is = fields_have_numbers Machine is.tree spec is.faultless is.checked

pub gives_few : (source : List ℕ) (result : Result Checked Halt) → Gives (Specifies Machine source) specification result → IfOk result (λ spec. length (state_type (specification spec)).fields < 2 ^ 32)
gives_few source (Ok spec) is = few_fields source (specification spec) is
gives_few source (Err halt) is = tt

-- ---- the parts

pub record IsMade (request : StressRequest) (posed : AnalysisInputs) : Type 0 where
  pub spec : IsSpecification Machine power_pc_text posed.spec
  pub image : Images Big (made_code request ∷ []) (Ok posed.image)
  pub entry : Enters posed.spec entry_text (Ok posed.entry)

pub made_parts : (request : StressRequest) (posed : AnalysisInputs) → MadeOf request (Ok posed) → IsMade request posed
made_parts request posed is =
    let s = opened (Specifies Machine power_pc_text) _ posed is in
    let i = opened (Images Big (made_code request ∷ [])) _ posed s.2 in
    let e = opened (Enters s.0 entry_text) _ posed i.2 in
    let whole : Ok posed ≡ Ok (record { spec = s.0; image = i.0; entry = e.0 }) = e.2 in
    let same : posed ≡ record { spec = s.0; image = i.0; entry = e.0 } = cc in
    subst (IsMade request) (sym same) (record { spec = s.1; image = i.1; entry = e.1 })

pub made_has_machine : (request : StressRequest) (posed : AnalysisInputs) → MadeOf request (Ok posed) → IsSome posed.spec.machine
made_has_machine request posed is = specified_machine power_pc_text posed.spec (made_parts request posed is).spec

pub made_is_well_posed : (request : StressRequest) (posed : AnalysisInputs) (m : Numbers) (limit joins cases : ℕ) → MadeOf request (Ok posed) → posed.spec.machine ≡ Some m → IsWellFormedProblem (problem_of posed.spec m posed.image posed.entry limit joins cases)
made_is_well_posed request posed m limit joins cases is is_machine =
    let parts = made_parts request posed is in
    let given = text_entry posed.spec entry_text posed.entry parts.entry in
    read_problems_are_well_posed addresses_are_those_of_words posed.spec m posed.image given.0 posed.entry limit joins cases (specified_accepted power_pc_text posed.spec parts.spec) is_machine
    (made_image (made_code request) posed.image parts.image) given.1

-- the state from which the code runs is one of the machine's
pub started_typed : (spec : Spec) (text : List ℕ) (s : State) → IsAccepted spec → StartsFrom spec text (Ok s) → IsStateOf spec s
started_typed spec text s ok is = start_typed (λ cap name found. found ≡ Ok text) spec [] s ok (goes_on refl is)
