use Rattle.std.proofs.Common.{◌≡◌, ℕ, List, map, drop}
use Rattle.spec_ir.specs.Environment.{case_from, or_else}
use Rattle.spec_ir.specs.Found.{found}
use Rattle.spec_ir.specs.Views.{case_of}
use Rattle.spec_ir.proofs.table.enter_cases.Given as goal

abbrev pub invariant-loop-case : goal.invariant-loop-case
invariant-loop-case l = (name : List ℕ) → or_else (found l.table name) (case_from l.ty l.case (map case_of (drop l.case l.cases)) name) ≡ or_else (found l.initial.table name) (case_from l.ty 0 (map case_of l.cases) name)
