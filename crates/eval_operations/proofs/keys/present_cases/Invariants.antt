use Rattle.std.proofs.Common.{◌≡◌, ◌++◌, drop, map}
use Rattle.abstract_value_laws.specs.Abs as value
use Rattle.abstract_value.specs.Constructors.{spread}
use Rattle.abstract_value.specs.View.{case_of, cases_of}
use Rattle.abstract_semantics.specs.Keys.{cases_from}
use Rattle.eval_operations.proofs.keys.present_cases.Given as goal

abbrev pub invariant-loop-i : goal.invariant-loop-i
invariant-loop-i g l = cases_from 0 (cases_of l.cases) ≡ l.present.items ++ cases_from l.i (value.cases (map case_of (drop l.i (spread l.cases))))
