use Rattle.std.proofs.Common.{arith, ◌∙◌}
use Rattle.spec_ir.specs.Views.{core, specification}
use Rattle.spec_match_compiler.specs.Views.{tree}
use Rattle.semantics.specs.Direct.{group_of}
use Rattle.eval_code.specs.Views.{tail}
use Rattle.eval_code_lowering.proofs.Counting.{taken_at}
use Rattle.eval_code_lowering.proofs.Writing.{tail_step, tails_end}
use Rattle.eval_code_lowering.proofs.tails.+tails.Goals as goal

pub lower_tails-loop-i-preserved : goal.lower_tails-loop-i-preserved
lower_tails-loop-i-preserved t c =
    let same = c.loop-i.invariant.same in
    let kept = c.in_ok-arm.ensures.same in
    let counted = taken_at _ _ _ _ _ _ c.in_ok-named.ensures c.deref.ensures.value c.loop-i-test.true c.taken-count.ensures in
    record {
      arms = tail_step core tail (group_of (specification c.args.spec.now)) c.args.group c.args.to.now.scope.items c.loop-i.to.scope.items c.args.to.now.next c.loop-i.to.next (tree c.args.by.now) c.args.arms.now c.loop-i.out.items c.push.new.self.items c.in_ok-arm.arm c.index-arms-i.result c.loop-i.i _ _
          c.loop-i-test.true c.index-arms-i.is c.in_ok-push.ensures.items same.scope same.next counted c.in_ok-arm.ensures.tail c.loop-i.invariant.arms;
      same = record { nodes = kept.nodes ∙ same.nodes; next = kept.next ∙ same.next; scope = kept.scope ∙ same.scope };
    }

pub lower_tails-returns-clause-tails : goal.lower_tails-returns-clause-tails
lower_tails-returns-clause-tails t c =
    let ended = c.loop-i-test.false in
    tails_end core tail (group_of (specification c.args.spec.now)) c.args.group c.args.to.now.scope.items c.loop-i.to.scope.items c.args.to.now.next c.loop-i.to.next (tree c.args.by.now) c.args.arms.now c.loop-i.out.items c.loop-i.i _ (grind (arith, ended)) c.loop-i.invariant.arms
