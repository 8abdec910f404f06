use Rattle.std.proofs.Common.{◌≡◌, ◌++◌, map, drop}
use Rattle.spec_declarations.specs.Declarations as spec
use Rattle.spec_declarations.proofs.declare.fields.Given as goal

abbrev pub invariant-loop-f : goal.invariant-loop-f
invariant-loop-f l = l.declared.items ++ map (spec.field_in l.names) (drop l.f-index l.fields) ≡ map (spec.field_in l.names) l.fields
