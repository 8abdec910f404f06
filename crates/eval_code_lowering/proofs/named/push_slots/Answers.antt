use Rattle.std.proofs.Common.{rules, arith}
use Rattle.eval_code_lowering.proofs.Slots.{slots_step}
use Rattle.eval_code_lowering.proofs.named.push_slots.Goals as goal

pub loop-left-preserved : goal.loop-left-preserved
loop-left-preserved c =
    let next = c.in-Some.ensures in
    let sum = c.loop-left.invariant.next in
    let positive = c.loop-left-test.true in
    record {
      slots = slots_step c.loop-left.scope.items c.push.new.self.items _ c.loop-left.next c.in-Some.next c.loop-left.left (grind (arith, positive)) (grind (arith, next)) c.in_ok-push.ensures.items c.loop-left.invariant.slots;
      next = grind (arith, next, sum, positive);
    }
