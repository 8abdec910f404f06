use Rattle.std.proofs.Common.{◌≡◌, ◌++◌, map, drop}
use Rattle.syntax_parser.specs.View.{constructor}
use Rattle.spec_ir.specs.Views.{case_of}
use Rattle.spec_declarations.specs.Declarations as spec
use Rattle.spec_declarations.proofs.declare.cases.Given as goal

abbrev pub invariant-loop-c : goal.invariant-loop-c
invariant-loop-c l = map case_of l.declared.items ++ map (spec.case_declared l.names) (map constructor (drop l.c-index l.cases)) ≡ map (spec.case_declared l.names) (map constructor l.cases)
