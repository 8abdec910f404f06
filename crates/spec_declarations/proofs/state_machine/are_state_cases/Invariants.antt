use Rattle.std.proofs.Common.{◌≡◌, map, drop}
use Rattle.std.specs.List.{list_all}
use Rattle.syntax_parser.specs.View.{constructor}
use Rattle.spec_declarations.specs.MachineRules.{is_state_case}
use Rattle.spec_declarations.proofs.state_machine.are_state_cases.Given as goal

abbrev pub invariant-loop-c : goal.invariant-loop-c
invariant-loop-c l = list_all (is_state_case l.names) (map constructor l.cases) ≡ list_all (is_state_case l.names) (map constructor (drop l.c-index l.cases))
