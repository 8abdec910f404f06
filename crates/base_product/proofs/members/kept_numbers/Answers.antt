use Rattle.std.proofs.Common.{ℕ, Bool, true, false, ap, sym, ◌∙◌, append-nil}
use Rattle.base_product.proofs.Kept.{kept_more}
use Rattle.base_product.proofs.members.kept_numbers.Goals as goal
use Rattle.base_product.proofs.members.kept_numbers.Goals.{then-may+in_ok-push, else-may}

pub loop-n-preserved : goal.loop-n-preserved
loop-n-preserved g c =
    let may : ℕ → Bool = g.B.Base.algebra.words.may c.args.ctx.now c.args.w c.args.x.now in
    elim c.if-may.branch [
      | then-may+in_ok-push w ↦
          kept_more may c.args.numbers.now c.loop-n.n-index true c.loop-n.out.items c.if-may.out.items c.loop-n-test.true
          (sym c.may.ensures.value ∙ w.if-may.true) c.loop-n.invariant
          (ap (λ v. v.items) w.out-is ∙ w.in_ok-push.ensures.items)
      | else-may w ↦
          kept_more may c.args.numbers.now c.loop-n.n-index false c.loop-n.out.items c.if-may.out.items c.loop-n-test.true
          (sym c.may.ensures.value ∙ w.if-may.false) c.loop-n.invariant
          (ap (λ v. v.items) w.out-is ∙ sym (append-nil c.loop-n.out.items))
    ]
