use Rattle.std.proofs.Common.{◌≡◌, map, drop}
use Rattle.std.specs.List.{list_all}
use Rattle.syntax_parser.specs.View.{constructor}
use Rattle.spec_declarations.specs.Types as spec
use Rattle.spec_declarations.proofs.types.have_no_fields.Given as goal

abbrev pub invariant-loop-c : goal.invariant-loop-c
invariant-loop-c l = list_all spec.no_fields (map constructor l.cases) ≡ list_all spec.no_fields (map constructor (drop l.c-index l.cases))
