use Rattle.std.proofs.Common.{◌≡◌, ◌++◌, map, drop}
use Rattle.syntax_parser.specs.View.{constructor}
use Rattle.spec_declarations.specs.TypeNames.{type_named}
use Rattle.spec_declarations.proofs.datatype_meanings.made_constructors.Given as goal

abbrev pub invariant-loop-c : goal.invariant-loop-c
invariant-loop-c l = map (λ c. c.items) l.made.items ++ map (λ c. map (λ f. type_named l.names f.ty.text) c.fields) (map constructor (drop l.c-index l.cases)) ≡ map (λ c. map (λ f. type_named l.names f.ty.text) c.fields) (map constructor l.cases)
