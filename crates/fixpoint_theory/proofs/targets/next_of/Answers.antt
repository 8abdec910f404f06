use Rattle.std.proofs.Common.{true, false, ap, sym, ◌∙◌, append-nil}
use Rattle.fixpoint_theory.specs.Code.{is_code}
use Rattle.fixpoint_theory.proofs.Kept.{kept_more}
use Rattle.fixpoint_theory.proofs.targets.next_of.Goals as goal
use Rattle.fixpoint_theory.proofs.targets.next_of.Goals.{then-is_code+in_ok-push, else-is_code}

pub loop-to-preserved : goal.loop-to-preserved
loop-to-preserved g c =
    let test = is_code (g.A.Analyser.analysis c.args.analyser.now).code in
    elim c.if-is_code.branch [
      | then-is_code+in_ok-push w ↦
          kept_more test c.args.targets.now c.loop-to.to-index true c.loop-to.next.items c.if-is_code.next.items c.loop-to-test.true
          (sym c.is_code.ensures ∙ w.if-is_code.true) c.loop-to.invariant
          (ap (λ v. v.items) w.next-is ∙ w.in_ok-push.ensures.items)
      | else-is_code w ↦
          kept_more test c.args.targets.now c.loop-to.to-index false c.loop-to.next.items c.if-is_code.next.items c.loop-to-test.true
          (sym c.is_code.ensures ∙ w.if-is_code.false) c.loop-to.invariant
          (ap (λ v. v.items) w.next-is ∙ sym (append-nil c.loop-to.next.items))
    ]
