use Rattle.std.proofs.Common.{◌≡◌, drop, map}
use Rattle.spec_ir.specs.Views.{case_of}
use Rattle.state_cell_text.specs.Keys.{case_number}
use Rattle.state_cell_text.proofs.keys.case_number.Given as goal

abbrev pub invariant-loop-i : goal.invariant-loop-i
invariant-loop-i l = case_number 0 (map case_of l.cases) l.name ≡ case_number l.i (map case_of (drop l.i l.cases)) l.name
