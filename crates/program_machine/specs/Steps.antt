-- The steps of `emulate` and `list`.
use Rattle.std.specs.Prelude.{◌≡◌, ℕ, List, [], ◌∷◌, ◌++◌, Ok}
use Rattle.support_command_line.specs.Requests.{EmulateRequest, ListRequest}
use Rattle.code_image.specs.Listing.{listing}
use Rattle.program_common.specs.Outcome.{Outcome, text}
use Rattle.program_common.specs.Reading.{Capped, Reading}
use Rattle.program_common.specs.Sources.{source_inputs}
use Rattle.program_common.specs.Steps.{Then}
use Rattle.program_machine.specs.Code.{CodeOf, part_inputs}
use Rattle.program_machine.specs.Entry.{StartOf, entry_cap}
use Rattle.program_machine.specs.Machines.{MachineOf}
use Rattle.program_machine.specs.Running.{Runs}

-- `emulate`: the specification, the code and the entry are read and examined, one after another; the machine runs
abbrev pub EmulateSteps : Reading → EmulateRequest → Outcome → Type 0
EmulateSteps reads request =
    Then (MachineOf reads request.spec) (λ spec.
    Then (CodeOf reads request.code) (λ image.
    Then (StartOf reads spec request.entry) (λ start.
    Runs spec image request.calls request.steps start)))

-- `list`: the specification and the code are read and examined; the words of the code are listed
abbrev pub ListSteps : Reading → ListRequest → Outcome → Type 0
ListSteps reads request =
    Then (MachineOf reads request.spec) (λ spec.
    Then (CodeOf reads request.code) (λ image outcome.
    outcome ≡ Ok (text (listing spec image))))

-- the inputs that are opened
abbrev pub emulate_inputs : EmulateRequest → List Capped
emulate_inputs request = source_inputs request.spec ++ part_inputs request.code.parts ++ (request.entry, entry_cap) ∷ []

abbrev pub list_inputs : ListRequest → List Capped
list_inputs request = source_inputs request.spec ++ part_inputs request.code.parts
