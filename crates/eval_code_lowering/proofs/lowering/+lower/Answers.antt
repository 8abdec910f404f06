use Rattle.std.proofs.Common.{arith, ◌∙◌}
use Rattle.spec_ir.specs.Views.{core}
use Rattle.spec_match_compiler.specs.Views.{tree}
use Rattle.eval_code.specs.Views.{stretch}
use Rattle.eval_code_lowering.proofs.Counting.{taken_at}
use Rattle.eval_code_lowering.proofs.Writing.{arm_step, arms_end}
use Rattle.eval_code_lowering.proofs.lowering.+lower.Goals as goal

pub lower_arms-loop-i-preserved : goal.lower_arms-loop-i-preserved
lower_arms-loop-i-preserved t c =
    let same = c.loop-i.invariant.same in
    let kept = c.in_ok-arm.ensures.same in
    let counted = taken_at _ _ _ _ _ _ c.in_ok-named.ensures c.deref.ensures.value c.loop-i-test.true c.taken-count.ensures in
    record {
      arms = arm_step core stretch c.args.to.now.scope.items c.loop-i.to.scope.items c.args.to.now.next c.loop-i.to.next (tree c.args.by.now) c.args.arms.now c.loop-i.out.items c.push.new.self.items c.in_ok-arm.arm c.index-arms-i.result c.loop-i.i _ _
          c.loop-i-test.true c.index-arms-i.is c.in_ok-push.ensures.items same.scope same.next counted c.in_ok-arm.ensures.stretch c.loop-i.invariant.arms;
      same = record { nodes = kept.nodes ∙ same.nodes; next = kept.next ∙ same.next; scope = kept.scope ∙ same.scope };
    }

pub lower_arms-returns-clause-stretches : goal.lower_arms-returns-clause-stretches
lower_arms-returns-clause-stretches t c =
    let ended = c.loop-i-test.false in
    arms_end core stretch c.args.to.now.scope.items c.loop-i.to.scope.items c.args.to.now.next c.loop-i.to.next (tree c.args.by.now) c.args.arms.now c.loop-i.out.items c.loop-i.i _ (grind (arith, ended)) c.loop-i.invariant.arms
