use Rattle.std.proofs.Common.{◌≡◌, ◌++◌, map, drop}
use Rattle.syntax_parser.specs.View.{constructor}
use Rattle.spec_names.specs.Names.{cases_fault, case_names}
use Rattle.spec_names.proofs.items.check_cases.Given as goal

abbrev pub invariant-loop-n : goal.invariant-loop-n
invariant-loop-n l = record {
  faults : cases_fault l.initial.before 0 (map constructor l.cases) ≡ cases_fault l.before l.n (map constructor (drop l.n l.cases));
  joined : l.initial.before ++ case_names (map constructor l.cases) ≡ l.before ++ case_names (map constructor (drop l.n l.cases));
}
