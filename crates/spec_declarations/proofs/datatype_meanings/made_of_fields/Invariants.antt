use Rattle.std.proofs.Common.{◌≡◌, ◌++◌, map, drop}
use Rattle.spec_declarations.specs.TypeNames.{type_named}
use Rattle.spec_declarations.proofs.datatype_meanings.made_of_fields.Given as goal

abbrev pub invariant-loop-f : goal.invariant-loop-f
invariant-loop-f l = l.meanings.items ++ map (λ f. type_named l.names f.ty.text) (drop l.f-index l.fields) ≡ map (λ f. type_named l.names f.ty.text) l.fields
