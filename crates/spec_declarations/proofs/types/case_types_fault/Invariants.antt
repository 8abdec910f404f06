use Rattle.std.proofs.Common.{◌≡◌, map, drop}
use Rattle.syntax_parser.specs.View.{constructor}
use Rattle.spec_declarations.specs.Types as spec
use Rattle.spec_declarations.proofs.types.case_types_fault.Given as goal

abbrev pub invariant-loop-c : goal.invariant-loop-c
invariant-loop-c l = spec.case_types_fault l.names (map constructor l.cases) ≡ spec.case_types_fault l.names (map constructor (drop l.c-index l.cases))
