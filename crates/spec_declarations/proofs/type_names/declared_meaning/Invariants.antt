use Rattle.std.proofs.Common.{◌≡◌, map, drop}
use Rattle.spec_declarations.specs.TypeNames.{declared_named}
use Rattle.spec_declarations.proofs.type_names.declared_meaning.Given as goal

abbrev pub invariant-loop-other : goal.invariant-loop-other
invariant-loop-other l = declared_named (map (λ t. (t.0.now, t.1)) l.types) l.name ≡ declared_named (map (λ t. (t.0.now, t.1)) (drop l.other-index l.types)) l.name
