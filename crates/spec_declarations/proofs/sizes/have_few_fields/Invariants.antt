use Rattle.std.proofs.Common.{◌≡◌, map, drop}
use Rattle.std.specs.List.{list_all}
use Rattle.syntax_parser.specs.View.{constructor}
use Rattle.spec_declarations.specs.Sizes.{has_few_fields}
use Rattle.spec_declarations.proofs.sizes.have_few_fields.Given as goal

abbrev pub invariant-loop-c : goal.invariant-loop-c
invariant-loop-c l = list_all has_few_fields (map constructor l.cases) ≡ list_all has_few_fields (map constructor (drop l.c-index l.cases))
