use Rattle.std.proofs.Common.{◌≡◌, drop}
use Rattle.spec_declarations.specs.Types as spec
use Rattle.spec_declarations.proofs.types.field_types_fault.Given as goal

abbrev pub invariant-loop-f : goal.invariant-loop-f
invariant-loop-f l = spec.field_types_fault l.names l.fields ≡ spec.field_types_fault l.names (drop l.f-index l.fields)
