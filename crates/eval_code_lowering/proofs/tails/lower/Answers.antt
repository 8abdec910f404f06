use Rattle.std.proofs.Common.{◌≡◌, ◌<◌, get_or, length, subst}
use Rattle.spec_ir.specs.Views.{fun_of, specification}
use Rattle.eval_code.specs.Views.{fun_code}
use Rattle.eval_code.specs.Lowered.{lowered_fun}
use Rattle.eval_code_lowering.proofs.Writing.{one_made}
use Rattle.eval_code_lowering.proofs.tails.lower.Goals as goal

pub loop-fun-preserved : goal.loop-fun-preserved
loop-fun-preserved c =
    one_made fun_code (lowered_fun (specification c.args.spec.now)) fun_of c.args.spec.now.funs.items c.loop-fun.funs.items c.push.new.self.items c.in_ok-lower_fun.field-0 c.fun-item.result c.loop-fun.fun-index
    (subst (λ z. c.loop-fun.fun-index < length z) c.deref-fun-items.ensures.value c.loop-fun-test.true) (subst (λ z. c.fun-item.result ≡ get_or z c.loop-fun.fun-index c.fun-item.result) c.deref-fun-items.ensures.value c.fun-item.is) c.in_ok-push.ensures.items c.in_ok-lower_fun.ensures c.loop-fun.invariant
