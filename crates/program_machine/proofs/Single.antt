-- Over the bytes that names hold, each command has one outcome.
use Rattle.std.proofs.Common.{◌≡◌, ℕ, List, [], ◌∷◌, Option, Some, None, refl, sym, ◌∙◌, ap, subst}
use Rattle.std.specs.Prelude.{Result, Ok, Err}
use Rattle.support_command_line.specs.Code.{Code, CodePart}
use Rattle.support_command_line.specs.Requests.{EmulateRequest, ListRequest}
use Rattle.support_command_line.specs.SpecNames.{SpecName}
use Rattle.spec_ir.specs.declared.spec.Machine.{Machine as Numbers}
use Rattle.spec_ir.specs.declared.spec.SpecUse.TheVariants.{Machine}
use Rattle.spec_ir.specs.Specification.{Spec}
use Rattle.semantics_values.specs.States.{State}
use Rattle.semantics.specs.Runs.{Ended}
use Rattle.code_image.specs.Image.{Image}
use Rattle.state_text.specs.declared.stop.Stop.{Stop}
use Rattle.state_text.specs.Stops.{stopped_text}
use Rattle.program_common.specs.Outcome.{Answer, Outcome}
use Rattle.program_common.specs.Reading.{Held, Holds}
use Rattle.program_common.specs.Sources.{SourceOf, Specifies}
use Rattle.program_common.proofs.OneSource.{one_held, one_source, one_specified}
use Rattle.program_common.proofs.Steps.{IsOne, one}
use Rattle.program_machine.specs.Code.{CodeOf, Images, Joins, SegmentsOf, code_cap, order_of}
use Rattle.program_machine.specs.Entry.{StartOf, StartsFrom, entry_cap}
use Rattle.program_machine.specs.Laws.{EmulateHasOne, ListHasOne}
use Rattle.program_machine.specs.Machines.{MachineOf}
use Rattle.program_machine.specs.Running.{IsRunOf, Runs, TellsOf, answer_of, end_of}
use Rattle.program_machine.proofs.Chains.{AfterCode, AfterMachine, AfterStart, Lists, ListsOf, Rest}

-- what is computed is one
computed : {A : Type 0} (value found other : A) → found ≡ value → other ≡ value → found ≡ other
computed value found other p q = p ∙ sym q

one_told : (spec : Spec) (end : Ended) (answer other : Answer) → TellsOf spec end answer → TellsOf spec end other → answer ≡ other
one_told spec end answer other p q =
    let stops : Some p.stop ≡ Some q.stop = sym p.why ∙ q.why in
    let same : p.stop ≡ q.stop = cc in
    p.told ∙ ap (λ (s : Stop). answer_of s (stopped_text spec s end.done end.state)) same ∙ sym q.told

one_run : (spec : Spec) (image : Image) (turns bound : ℕ) (start : State) → IsOne (Runs spec image turns bound start)
one_run spec image turns bound start (Ok answer) (Ok other) p q =
    let machines : Some p.machine ≡ Some q.machine = sym p.is_machine ∙ q.is_machine in
    let same : p.machine ≡ q.machine = cc in
    ap (λ (a : Answer). Ok a) (one_told spec (end_of spec q.machine image turns bound start) answer other
    (subst (λ (m : Numbers). TellsOf spec (end_of spec m image turns bound start) answer) same p.tells) q.tells)
one_run spec image turns bound start (Ok answer) (Err refusal) p q = absurd q
one_run spec image turns bound start (Err refusal) other p q = absurd p

module _ (held : Held) where
  pub one_machine : (name : SpecName) → IsOne (MachineOf (Holds held) name)
  one_machine name = one (SourceOf (Holds held) name) (Specifies Machine) (one_source held name) (λ source. one_specified Machine source)

  one_segments : (parts : List CodePart) → IsOne (SegmentsOf (Holds held) parts)
  one_segments [] found other p q = p ∙ sym q
  one_segments (part ∷ parts) found other p q =
      one (Holds held code_cap part.name) (Rest (Holds held) part parts) (one_held held code_cap part.name)
      (λ bytes. one (SegmentsOf (Holds held) parts) (Joins part.base bytes) (one_segments parts) (λ segments found other p q. p ∙ sym q)) found other p q

  pub one_code : (code : Code) → IsOne (CodeOf (Holds held) code)
  one_code code = one (SegmentsOf (Holds held) code.parts) (Images (order_of code.order)) (one_segments code.parts) (λ segments found other p q. p ∙ sym q)

  one_start : (spec : Spec) (name : List ℕ) → IsOne (StartOf (Holds held) spec name)
  one_start spec name = one (Holds held entry_cap name) (StartsFrom spec) (one_held held entry_cap name) (λ text found other p q. p ∙ sym q)

pub emulate_has_one : EmulateHasOne
emulate_has_one held request found other p q =
    one (MachineOf (Holds held) request.spec) (AfterMachine (Holds held) request) (one_machine held request.spec) (λ spec.
    one (CodeOf (Holds held) request.code) (AfterCode (Holds held) request spec) (one_code held request.code) (λ image.
    one (StartOf (Holds held) spec request.entry) (AfterStart (Holds held) request spec image) (one_start held spec request.entry) (λ start.
    one_run spec image request.calls request.steps start))) found other p q

pub list_has_one : ListHasOne
list_has_one held request found other p q =
    one (MachineOf (Holds held) request.spec) (ListsOf (Holds held) request) (one_machine held request.spec) (λ spec.
    one (CodeOf (Holds held) request.code) (Lists (Holds held) request spec) (one_code held request.code) (λ image found other p q. p ∙ sym q)) found other p q
