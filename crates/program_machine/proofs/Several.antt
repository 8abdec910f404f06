-- The chains over inputs that are read one after another.
use Rattle.std.proofs.Common.{◌≡◌, ◌⊎◌, ℕ, List, ◌∷◌, IsTrue, sym, ◌∙◌, subst}
use Rattle.std.specs.Prelude.{Result, Ok}
use Rattle.support_command_line.specs.Code.{Code, CodePart}
use Rattle.support_command_line.specs.Requests.{EmulateRequest, ListRequest}
use Rattle.support_command_line.specs.SpecNames.{SpecName}
use Rattle.code_image.specs.Image.{Image, Segment}
use Rattle.code_image.specs.Listing.{listing}
use Rattle.spec_ir.specs.Specification.{Spec}
use Rattle.semantics_values.specs.States.{State}
use Rattle.support_io.specs.InputState.{InputState, InputsKept}
use Rattle.program_common.specs.declared.outcome.Halt.{Halt}
use Rattle.program_common.specs.Outcome.{Answer, Refusal, text}
use Rattle.program_common.specs.Outcomes.{Stops}
use Rattle.program_common.specs.Reading.{Gave}
use Rattle.program_common.proofs.Readings.{gave_later, gave_still, kept_both}
use Rattle.program_common.proofs.Steps.{stops_too}
use Rattle.program_machine.specs.Code.{CodeOf, Joins, SegmentsOf, code_cap}
use Rattle.program_machine.specs.Entry.{StartOf}
use Rattle.program_machine.specs.Machines.{MachineOf}
use Rattle.program_machine.specs.Running.{IsRunOf}
use Rattle.program_machine.specs.Steps.{EmulateSteps, ListSteps}
use Rattle.program_machine.proofs.Chains.{code_still, code_wider, machine_still, no_image, no_listed_image, no_parts, all_parts, no_start, segments_still, segments_wider, some_listing, some_run, start_wider}

-- ---- two inputs

module _ (old mid new : InputState) (kept : InputsKept old mid) (calm : mid.faults ≡ old.faults) where
  pub parts_stop : (part : CodePart) (parts : List CodePart) (bytes : List ℕ) (halt : Halt) → Gave old mid code_cap part.name (Ok bytes) → Stops (SegmentsOf (Gave mid new) parts) halt
      → Stops (SegmentsOf (Gave old new) (part ∷ parts)) halt
  parts_stop part parts bytes halt read stops =
      no_parts (Gave old new) part parts bytes halt (gave_still old mid new code_cap part.name bytes read)
      (stops_too (SegmentsOf (Gave mid new) parts) (SegmentsOf (Gave old new) parts) (segments_wider (Gave mid new) (Gave old new) (gave_later old mid new kept calm) parts) halt stops)

  pub parts_given : (part : CodePart) (parts : List CodePart) (bytes : List ℕ) (segments all : List Segment) → Gave old mid code_cap part.name (Ok bytes) → SegmentsOf (Gave mid new) parts (Ok segments)
      → all ≡ record { base = part.base; bytes = bytes } ∷ segments → SegmentsOf (Gave old new) (part ∷ parts) (Ok all)
  parts_given part parts bytes segments all read rest is =
      all_parts (Gave old new) part parts bytes segments all (gave_still old mid new code_cap part.name bytes read)
      (segments_wider (Gave mid new) (Gave old new) (gave_later old mid new kept calm) parts (Ok segments) rest) is

  pub code_stop : (code : Code) (halt : Halt) → Stops (CodeOf (Gave mid new) code) halt → Stops (CodeOf (Gave old new) code) halt
  code_stop code halt stops = stops_too (CodeOf (Gave mid new) code) (CodeOf (Gave old new) code) (code_wider (Gave mid new) (Gave old new) (gave_later old mid new kept calm) code) halt stops

  pub emulate_no_image : (request : EmulateRequest) (spec : Spec) (halt : Halt) → MachineOf (Gave old mid) request.spec (Ok spec) → Stops (CodeOf (Gave mid new) request.code) halt
      → Stops (EmulateSteps (Gave old new) request) halt
  emulate_no_image request spec halt specified stops =
      no_image (Gave old new) request spec (machine_still (Gave old mid) (Gave old new) (gave_still old mid new) request.spec spec specified) halt (code_stop request.code halt stops)

  pub list_no_image : (request : ListRequest) (spec : Spec) (halt : Halt) → MachineOf (Gave old mid) request.spec (Ok spec) → Stops (CodeOf (Gave mid new) request.code) halt
      → Stops (ListSteps (Gave old new) request) halt
  list_no_image request spec halt specified stops =
      no_listed_image (Gave old new) request spec (machine_still (Gave old mid) (Gave old new) (gave_still old mid new) request.spec spec specified) halt (code_stop request.code halt stops)

  pub list_given : (request : ListRequest) (spec : Spec) (image : Image) (answer : Answer) → MachineOf (Gave old mid) request.spec (Ok spec) → CodeOf (Gave mid new) request.code (Ok image)
      → answer ≡ text (listing spec image) → ListSteps (Gave old new) request (Ok answer)
  list_given request spec image answer specified imaged is =
      some_listing (Gave old new) request spec (machine_still (Gave old mid) (Gave old new) (gave_still old mid new) request.spec spec specified) image
      (code_wider (Gave mid new) (Gave old new) (gave_later old mid new kept calm) request.code (Ok image) imaged) answer is

-- ---- three inputs

module _ (old one mid new : InputState) (kept : InputsKept old one) (calm : one.faults ≡ old.faults) (kept_on : InputsKept one mid) (calm_on : mid.faults ≡ one.faults) where
  pub machine_given : (name : SpecName) (spec : Spec) → MachineOf (Gave old one) name (Ok spec) → MachineOf (Gave old new) name (Ok spec)
  machine_given name spec specified = machine_still (Gave old one) (Gave old new) (gave_still old one new) name spec specified

  pub code_given : (code : Code) (image : Image) → CodeOf (Gave one mid) code (Ok image) → CodeOf (Gave old new) code (Ok image)
  code_given code image imaged =
      code_still (Gave old mid) (Gave old new) (gave_still old mid new) code image
      (code_wider (Gave one mid) (Gave old mid) (gave_later old one mid kept calm) code (Ok image) imaged)

  module _ (request : EmulateRequest) (spec : Spec) (image : Image) (specified : MachineOf (Gave old one) request.spec (Ok spec)) (imaged : CodeOf (Gave one mid) request.code (Ok image)) where
    start_given : (found : Result State Refusal) → StartOf (Gave mid new) spec request.entry found → StartOf (Gave old new) spec request.entry found
    start_given found started = start_wider (Gave mid new) (Gave old new) (gave_later old mid new (kept_both old one mid kept kept_on) (calm_on ∙ calm)) spec request.entry found started

    pub emulate_no_start : (halt : Halt) → Stops (StartOf (Gave mid new) spec request.entry) halt → Stops (EmulateSteps (Gave old new) request) halt
    emulate_no_start halt stops =
        no_start (Gave old new) request spec (machine_given request.spec spec specified) image (code_given request.code image imaged) halt
        (stops_too (StartOf (Gave mid new) spec request.entry) (StartOf (Gave old new) spec request.entry) start_given halt stops)

    pub emulate_given : (start : State) (answer : Answer) → StartOf (Gave mid new) spec request.entry (Ok start) → IsRunOf spec image request.calls request.steps start answer
        → EmulateSteps (Gave old new) request (Ok answer)
    emulate_given start answer started runs =
        some_run (Gave old new) request spec (machine_given request.spec spec specified) image (code_given request.code image imaged) start (start_given (Ok start) started) answer runs
