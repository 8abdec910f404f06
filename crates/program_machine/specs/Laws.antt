-- The outcomes of `emulate` and `list` over the bytes that names hold.
use Rattle.std.specs.Prelude.{◌≡◌}
use Rattle.support_command_line.specs.Requests.{EmulateRequest, ListRequest}
use Rattle.program_common.specs.Outcome.{Outcome}
use Rattle.program_common.specs.Reading.{Held, Holds}
use Rattle.program_machine.specs.Steps.{EmulateSteps, ListSteps}

-- `emulate` has one outcome at most
abbrev pub EmulateHasOne : Type 0
EmulateHasOne = (held : Held) (request : EmulateRequest) (found other : Outcome) → EmulateSteps (Holds held) request found → EmulateSteps (Holds held) request other → found ≡ other

-- and at least one
abbrev pub EmulateHasSome : Type 0
EmulateHasSome = (held : Held) (request : EmulateRequest) → (found : Outcome) × EmulateSteps (Holds held) request found

-- so has `list`
abbrev pub ListHasOne : Type 0
ListHasOne = (held : Held) (request : ListRequest) (found other : Outcome) → ListSteps (Holds held) request found → ListSteps (Holds held) request other → found ≡ other

abbrev pub ListHasSome : Type 0
ListHasSome = (held : Held) (request : ListRequest) → (found : Outcome) × ListSteps (Holds held) request found
