use Rattle.std.proofs.Common.{◌≡◌, map, take}
use Rattle.spec_ir.specs.Views.{fun_of, specification}
use Rattle.eval_code.specs.Views.{fun_code}
use Rattle.eval_code.specs.Lowered.{lowered_fun}
use Rattle.eval_code_lowering.proofs.tails.lower.Given as goal

abbrev pub invariant-loop-fun : goal.invariant-loop-fun
invariant-loop-fun l = map fun_code l.funs.items ≡ map (lowered_fun (specification l.spec)) (map fun_of (take l.fun-index l.spec.funs.items))
