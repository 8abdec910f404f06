-- What `emulate` prints, read as an entry.
use Rattle.std.specs.Prelude.{◌≡◌, ℕ, ◌<◌, ◌^◌, Some, Ok}
use Rattle.support_command_line.specs.Requests.{EmulateRequest}
use Rattle.spec_ir.specs.declared.spec.Machine.{Machine}
use Rattle.spec_ir.specs.Specification.{Spec}
use Rattle.semantics_values.specs.States.{State}
use Rattle.code_image.specs.Image.{Image}
use Rattle.state_text.specs.Laws.{IsEntryOf}
use Rattle.state_text.specs.Reading.{Entry, read}
use Rattle.program_common.specs.Outcome.{Answer, line_of}
use Rattle.program_common.specs.Reading.{Held, Holds}
use Rattle.program_machine.specs.Code.{CodeOf}
use Rattle.program_machine.specs.Entry.{StartOf}
use Rattle.program_machine.specs.Machines.{MachineOf}
use Rattle.program_machine.specs.Running.{end_of}
use Rattle.program_machine.specs.Steps.{EmulateSteps}

-- The specification, the code and the entry of the command are these, and what is written of its answer is an entry of the specification: that of one state,
-- which is the last one of the run but for stamps.
pub record ReadsBack (held : Held) (request : EmulateRequest) (answer : Answer) : Type 0 where
  pub spec : Spec
  pub image : Image
  pub start : State
  pub machine : Machine
  pub specified : MachineOf (Holds held) request.spec (Ok spec)
  pub imaged : CodeOf (Holds held) request.code (Ok image)
  pub started : StartOf (Holds held) spec request.entry (Ok start)
  pub is_machine : spec.machine ≡ Some machine
  pub entry : Entry
  pub is_read : read spec (line_of (Ok answer)) ≡ Ok entry
  pub last : IsEntryOf spec (end_of spec machine image request.calls request.steps start).state entry

-- Over the bytes that names hold, each answer of `emulate` reads back. A request of words has fewer steps than this.
abbrev pub EmulateReadsBack : Type 0
EmulateReadsBack = (held : Held) (request : EmulateRequest) (answer : Answer) → request.steps < 2 ^ 64 → EmulateSteps (Holds held) request (Ok answer) → ReadsBack held request answer
