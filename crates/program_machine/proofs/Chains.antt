-- The chains of `emulate` and `list`, as far as they come.
use Rattle.std.proofs.Common.{◌≡◌, ℕ, List, [], ◌∷◌, refl, ap}
use Rattle.std.specs.Prelude.{Result, Ok, Err}
use Rattle.support_command_line.specs.Code.{Code, CodePart}
use Rattle.support_command_line.specs.Requests.{EmulateRequest, ListRequest}
use Rattle.support_command_line.specs.SpecNames.{SpecName}
use Rattle.spec_ir.specs.declared.spec.SpecUse.TheVariants.{Machine}
use Rattle.spec_ir.specs.Specification.{Spec}
use Rattle.semantics_values.specs.States.{State}
use Rattle.code_image.specs.Image.{Image, Segment}
use Rattle.code_image.specs.Listing.{listing}
use Rattle.program_common.specs.declared.outcome.Halt.{Halt}
use Rattle.program_common.specs.Outcome.{Answer, Refusal, text}
use Rattle.program_common.specs.Outcomes.{Stops}
use Rattle.program_common.specs.Reading.{Reading}
use Rattle.program_common.specs.Sources.{SourceOf, Specifies}
use Rattle.program_common.specs.Steps.{Then, goes_on}
use Rattle.program_common.proofs.Readings.{IsWider, KeepsBytes, source_still}
use Rattle.program_common.proofs.Steps.{each, first_stops, next_stops, opened, stops_too}
use Rattle.program_machine.specs.Code.{CodeOf, Images, Joins, SegmentsOf, code_cap, order_of}
use Rattle.program_machine.specs.Entry.{StartOf, StartsFrom, entry_cap}
use Rattle.program_machine.specs.Machines.{MachineOf}
use Rattle.program_machine.specs.Running.{IsRunOf, Runs}
use Rattle.program_machine.specs.Steps.{EmulateSteps, ListSteps}

-- the parts behind the first
abbrev pub Rest : Reading → CodePart → List CodePart → List ℕ → Result (List Segment) Refusal → Type 0
Rest reads part parts bytes = Then (SegmentsOf reads parts) (Joins part.base bytes)

module _ (reads other : Reading) where
  -- ---- what a wider reading gives too
  module _ (wide : IsWider reads other) where
    pub segments_wider : (parts : List CodePart) (found : Result (List Segment) Refusal) → SegmentsOf reads parts found → SegmentsOf other parts found
    segments_wider [] found p = p
    segments_wider (part ∷ parts) found p =
        each (reads code_cap part.name) (other code_cap part.name) (Rest reads part parts) (Rest other part parts) (wide code_cap part.name)
        (λ bytes. each (SegmentsOf reads parts) (SegmentsOf other parts) (Joins part.base bytes) (Joins part.base bytes) (segments_wider parts) (λ segments found q. q)) found p

    pub code_wider : (code : Code) (found : Result Image Refusal) → CodeOf reads code found → CodeOf other code found
    code_wider code found p =
        each (SegmentsOf reads code.parts) (SegmentsOf other code.parts) (Images (order_of code.order)) (Images (order_of code.order)) (segments_wider code.parts) (λ segments found q. q) found p

    pub start_wider : (spec : Spec) (name : List ℕ) (found : Result State Refusal) → StartOf reads spec name found → StartOf other spec name found
    start_wider spec name found p =
        each (reads entry_cap name) (other entry_cap name) (StartsFrom spec) (StartsFrom spec) (wide entry_cap name) (λ bytes found q. q) found p

  -- ---- what a reading that goes on still gives
  module _ (keeps : KeepsBytes reads other) where
    pub machine_still : (name : SpecName) (spec : Spec) → MachineOf reads name (Ok spec) → MachineOf other name (Ok spec)
    machine_still name spec p =
        let o = opened (SourceOf reads name) (Specifies Machine) spec p in
        goes_on (source_still reads other keeps name o.0 o.1) o.2

    pub segments_still : (parts : List CodePart) (segments : List Segment) → SegmentsOf reads parts (Ok segments) → SegmentsOf other parts (Ok segments)
    segments_still [] segments p = p
    segments_still (part ∷ parts) segments p =
        let o = opened (reads code_cap part.name) (Rest reads part parts) segments p in
        let r = opened (SegmentsOf reads parts) (Joins part.base o.0) segments o.2 in
        goes_on (keeps code_cap part.name o.0 o.1) (goes_on (segments_still parts r.0 r.1) r.2)

    pub code_still : (code : Code) (image : Image) → CodeOf reads code (Ok image) → CodeOf other code (Ok image)
    code_still code image p =
        let o = opened (SegmentsOf reads code.parts) (Images (order_of code.order)) image p in
        goes_on (segments_still code.parts o.0 o.1) o.2

-- ---- parts of code

module _ (reads : Reading) (part : CodePart) (parts : List CodePart) where
  -- without the bytes of the first part
  pub no_part : (halt : Halt) → Stops (reads code_cap part.name) halt → Stops (SegmentsOf reads (part ∷ parts)) halt
  no_part halt stops = first_stops (reads code_cap part.name) (Rest reads part parts) halt stops

  -- without those of the others
  pub no_parts : (bytes : List ℕ) (halt : Halt) → reads code_cap part.name (Ok bytes) → Stops (SegmentsOf reads parts) halt → Stops (SegmentsOf reads (part ∷ parts)) halt
  no_parts bytes halt read stops =
      next_stops (reads code_cap part.name) (Rest reads part parts) bytes halt read (first_stops (SegmentsOf reads parts) (Joins part.base bytes) halt stops)

  -- and with all
  pub all_parts : (bytes : List ℕ) (segments all : List Segment) → reads code_cap part.name (Ok bytes) → SegmentsOf reads parts (Ok segments)
      → all ≡ record { base = part.base; bytes = bytes } ∷ segments → SegmentsOf reads (part ∷ parts) (Ok all)
  all_parts bytes segments all read rest is = goes_on read (goes_on rest (ap (λ (s : List Segment). Ok s) is))

-- ---- the commands

module _ (reads : Reading) (request : EmulateRequest) where
  abbrev pub AfterStart : Spec → Image → State → Result Answer Refusal → Type 0
  AfterStart spec image start = Runs spec image request.calls request.steps start

  abbrev pub AfterCode : Spec → Image → Result Answer Refusal → Type 0
  AfterCode spec image = Then (StartOf reads spec request.entry) (AfterStart spec image)

  abbrev pub AfterMachine : Spec → Result Answer Refusal → Type 0
  AfterMachine spec = Then (CodeOf reads request.code) (AfterCode spec)

  pub no_machine : (halt : Halt) → Stops (MachineOf reads request.spec) halt → Stops (EmulateSteps reads request) halt
  no_machine halt stops = first_stops (MachineOf reads request.spec) AfterMachine halt stops

  module _ (spec : Spec) (specified : MachineOf reads request.spec (Ok spec)) where
    pub no_image : (halt : Halt) → Stops (CodeOf reads request.code) halt → Stops (EmulateSteps reads request) halt
    no_image halt stops = next_stops (MachineOf reads request.spec) AfterMachine spec halt specified (first_stops (CodeOf reads request.code) (AfterCode spec) halt stops)

    module _ (image : Image) (imaged : CodeOf reads request.code (Ok image)) where
      pub no_start : (halt : Halt) → Stops (StartOf reads spec request.entry) halt → Stops (EmulateSteps reads request) halt
      no_start halt stops =
          next_stops (MachineOf reads request.spec) AfterMachine spec halt specified
          (next_stops (CodeOf reads request.code) (AfterCode spec) image halt imaged (first_stops (StartOf reads spec request.entry) (AfterStart spec image) halt stops))

      pub some_run : (start : State) → StartOf reads spec request.entry (Ok start) → (answer : Answer) → IsRunOf spec image request.calls request.steps start answer
          → EmulateSteps reads request (Ok answer)
      some_run start started answer runs = goes_on specified (goes_on imaged (goes_on started runs))

module _ (reads : Reading) (request : ListRequest) where
  abbrev pub Lists : Spec → Image → Result Answer Refusal → Type 0
  Lists spec image outcome = outcome ≡ Ok (text (listing spec image))

  abbrev pub ListsOf : Spec → Result Answer Refusal → Type 0
  ListsOf spec = Then (CodeOf reads request.code) (Lists spec)

  pub no_listed_machine : (halt : Halt) → Stops (MachineOf reads request.spec) halt → Stops (ListSteps reads request) halt
  no_listed_machine halt stops = first_stops (MachineOf reads request.spec) ListsOf halt stops

  module _ (spec : Spec) (specified : MachineOf reads request.spec (Ok spec)) where
    pub no_listed_image : (halt : Halt) → Stops (CodeOf reads request.code) halt → Stops (ListSteps reads request) halt
    no_listed_image halt stops = next_stops (MachineOf reads request.spec) ListsOf spec halt specified (first_stops (CodeOf reads request.code) (Lists spec) halt stops)

    pub some_listing : (image : Image) → CodeOf reads request.code (Ok image) → (answer : Answer) → answer ≡ text (listing spec image) → ListSteps reads request (Ok answer)
    some_listing image imaged answer is = goes_on specified (goes_on imaged (ap (λ (a : Answer). Ok a) is))
