use Rattle.std.proofs.Common.{◌≡◌, ◌++◌, map, drop}
use Rattle.spec_declarations.specs.Declarations as spec
use Rattle.spec_declarations.proofs.declare.parameters.Given as goal

abbrev pub invariant-loop-f : goal.invariant-loop-f
invariant-loop-f l = l.types.items ++ map (λ p. spec.type_in l.names p.ty) (drop l.f-index l.fields) ≡ map (λ p. spec.type_in l.names p.ty) l.fields
