-- Over the bytes that names hold, each command has an outcome.
use Rattle.std.proofs.Common.{◌≡◌, ℕ, List, [], ◌∷◌, Option, Some, None, refl, sym, ◌∙◌, ap, subst}
use Rattle.std.specs.Prelude.{IsSome, Result, Ok, Err}
use Rattle.support_command_line.specs.Code.{Code, CodePart}
use Rattle.support_command_line.specs.Requests.{EmulateRequest, ListRequest}
use Rattle.support_command_line.specs.SpecNames.{SpecName}
use Rattle.spec_ir.specs.declared.spec.Machine.{Machine as Numbers}
use Rattle.spec_ir.specs.declared.spec.SpecUse.TheVariants.{Machine}
use Rattle.spec_ir.specs.Specification.{Spec}
use Rattle.semantics_values.specs.States.{State}
use Rattle.semantics_values.specs.Types.{environment_of}
use Rattle.semantics.specs.Runs as r
use Rattle.semantics.specs.Runs.{Ended}
use Rattle.semantics_laws.specs.Accepted.{IsAccepted}
use Rattle.semantics_laws.specs.KeptTypes.{IsTypedEnd}
use Rattle.semantics_laws.proofs.Kept.{runs_keep_types}
use Rattle.code_image.specs.Image.{Image, code_at}
use Rattle.code_image.specs.Listing.{listing}
use Rattle.code_image.specs.Faults.{image_fault}
use Rattle.state_text.specs.declared.stop.Stop.{Stop}
use Rattle.state_text.specs.Reading.{read}
use Rattle.state_text.specs.Stops.{stopped_text}
use Rattle.concrete_emulator.specs.Ends.{IsStateOf, stop_at}
use Rattle.program_common.specs.Outcome.{Answer, Outcome, text}
use Rattle.program_common.specs.Reading.{Held, Holds}
use Rattle.program_common.specs.Sources.{SourceOf, Specifies}
use Rattle.program_common.proofs.OneSource.{some_held, some_source, some_specified}
use Rattle.program_common.proofs.Steps.{IsTotal, opened, total}
use Rattle.program_machine.specs.Code.{CodeOf, Images, Joins, SegmentsOf, code_cap, imaged, order_of}
use Rattle.program_machine.specs.Entry.{StartOf, StartsFrom, entered, entry_cap, state_in}
use Rattle.program_machine.specs.Laws.{EmulateHasSome, ListHasSome}
use Rattle.program_machine.specs.Machines.{MachineOf}
use Rattle.program_machine.specs.Running.{IsRunOf, Runs, TellsOf, answer_of, end_of}
use Rattle.program_machine.proofs.Chains.{AfterCode, AfterMachine, AfterStart, Lists, ListsOf, Rest}
use Rattle.program_machine.proofs.Giving.{some_machine, specified_accepted, specified_machine}
use Rattle.program_machine.proofs.Typing.{start_typed}

-- a run that ends otherwise than by a wrong step has a stop
some_stop : (pc : ℕ) (stop : r.Stop) → ¬ (stop ≡ r.Stop.wrong) → (found : Stop) × (stop_at pc stop ≡ Some found)
some_stop pc r.Stop.bound right = (_, refl)
some_stop pc r.Stop.left right = (_, refl)
some_stop pc (r.Stop.undecodable word) right = (_, refl)
some_stop pc r.Stop.turns right = (_, refl)
some_stop pc r.Stop.wrong right = absurd (right refl)

some_told : (spec : Spec) (end : Ended) → ¬ (end.stop ≡ r.Stop.wrong) → (answer : Answer) × TellsOf spec end answer
some_told spec end right =
    let stop = some_stop end.state.pc end.stop right in
    (answer_of stop.0 (stopped_text spec stop.0 end.done end.state), record { stop = stop.0; why = stop.1; told = refl })

some_run : (spec : Spec) (image : Image) (turns bound : ℕ) (start : State) → IsAccepted spec → IsSome spec.machine → IsStateOf spec start → IsTotal (Runs spec image turns bound start)
some_run spec image turns bound start ok some typed =
    let m = some_machine spec.machine some in
    let end = runs_keep_types spec m.0 (code_at image) turns bound start ok m.1 (typed m.0 m.1) in
    let told = some_told spec (end_of spec m.0 image turns bound start) end.right in
    (Ok told.0, record { machine = m.0; is_machine = m.1; tells = told.1 })

module _ (held : Held) where
  pub machine_some : (name : SpecName) → IsTotal (MachineOf (Holds held) name)
  machine_some name = total (SourceOf (Holds held) name) (Specifies Machine) (some_source held name) (λ source read. some_specified Machine source)

  segments_some : (parts : List CodePart) → IsTotal (SegmentsOf (Holds held) parts)
  segments_some [] = (Ok [], refl)
  segments_some (part ∷ parts) =
      total (Holds held code_cap part.name) (Rest (Holds held) part parts) (some_held held code_cap part.name (held part.name) refl)
      (λ bytes read. total (SegmentsOf (Holds held) parts) (Joins part.base bytes) (segments_some parts) (λ segments further. (Ok (record { base = part.base; bytes = bytes } ∷ segments), refl)))

  pub code_some : (code : Code) → IsTotal (CodeOf (Holds held) code)
  code_some code =
      total (SegmentsOf (Holds held) code.parts) (Images (order_of code.order)) (segments_some code.parts)
      (λ segments read. (imaged (order_of code.order) segments (image_fault segments), refl))

  start_some : (spec : Spec) (name : List ℕ) → IsTotal (StartOf (Holds held) spec name)
  start_some spec name =
      total (Holds held entry_cap name) (StartsFrom spec) (some_held held entry_cap name (held name) refl) (λ bytes is. (entered (state_in spec (read spec bytes)), refl))

pub emulate_has_some : EmulateHasSome
emulate_has_some held request =
    total (MachineOf (Holds held) request.spec) (AfterMachine (Holds held) request) (machine_some held request.spec) (λ spec specified.
    total (CodeOf (Holds held) request.code) (AfterCode (Holds held) request spec) (code_some held request.code) (λ image is_image.
    total (StartOf (Holds held) spec request.entry) (AfterStart (Holds held) request spec image) (start_some held spec request.entry) (λ start started.
    let source = opened (SourceOf (Holds held) request.spec) (Specifies Machine) spec specified in
    let ok = specified_accepted source.0 spec source.2 in
    some_run spec image request.calls request.steps start ok (specified_machine source.0 spec source.2) (start_typed (Holds held) spec request.entry start ok started))))

pub list_has_some : ListHasSome
list_has_some held request =
    total (MachineOf (Holds held) request.spec) (ListsOf (Holds held) request) (machine_some held request.spec) (λ spec specified.
    total (CodeOf (Holds held) request.code) (Lists (Holds held) request spec) (code_some held request.code) (λ image is_image. (Ok (text (listing spec image)), refl)))
