-- Where no fault of the inputs is counted.
use Rattle.std.specs.Prelude.{◌≡◌, Result, Err}
use Rattle.support_io.specs.InputState.{InputState}
use Rattle.program_common.specs.declared.outcome.Halt.{Halt}
use Rattle.program_common.specs.declared.outcome.Halt.TheVariants.{Refused}
use Rattle.program_common.specs.declared.outcome.Refusal.TheVariants.{CannotRead}

-- No fault was counted, unless the answer is that an input could not be read.
abbrev pub NoOtherFault : {A : Type 0} → InputState → InputState → Result A Halt → Type 0
NoOtherFault old new (Err (Refused (CannotRead name))) = Unit {0}
NoOtherFault old new _ = new.faults ≡ old.faults
