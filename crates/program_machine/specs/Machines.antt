-- The specification of a machine.
use Rattle.std.specs.Prelude.{Result}
use Rattle.support_command_line.specs.SpecNames.{SpecName}
use Rattle.spec_ir.specs.declared.spec.SpecUse.TheVariants.{Machine}
use Rattle.spec_ir.specs.Specification.{Spec}
use Rattle.program_common.specs.Outcome.{Refusal}
use Rattle.program_common.specs.Reading.{Reading}
use Rattle.program_common.specs.Sources.{SourceOf, Specifies}
use Rattle.program_common.specs.Steps.{Then}

-- Its source is read, parsed and tested.
abbrev pub MachineOf : Reading → SpecName → Result Spec Refusal → Type 0
MachineOf reads name = Then (SourceOf reads name) (Specifies Machine)
