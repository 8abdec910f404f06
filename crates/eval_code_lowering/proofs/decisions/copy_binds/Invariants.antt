use Rattle.std.proofs.Common.{◌≡◌, map, take}
use Rattle.spec_match_compiler.specs.Views.{bound}
use Rattle.eval_code_lowering.proofs.decisions.copy_binds.Given as goal

abbrev pub invariant-loop-variable : goal.invariant-loop-variable
invariant-loop-variable l = map bound l.out.items ≡ map bound (take l.variable-index l.binds)
