use Rattle.std.proofs.Common.{◌<◌, ◌^◌, sym, subst, length}
use Rattle.std.specs.Prelude.{max}
use Rattle.std.proofs.Math.Facts.{Fits-lt-pow}
use Rattle.domain_affine_base.proofs.Sums.{sum_more}
use Rattle.domain_affine_base.proofs.forms.sum.Goals as goal

pub loop-i-preserved : goal.loop-i-preserved
loop-i-preserved c =
    let lt : c.loop-i.i < max (length c.args.f.now) (length c.args.g.now) = subst (λ z. c.loop-i.i < z) c.max-i-end.ensures c.loop-i-test.true in
    sum_more c.loop-i.i c.args.f.now c.args.g.now c.loop-i.c.items c.push.new.self.items c.number.result c.number-in-loop-i.result lt
    c.number.ensures c.number-in-loop-i.ensures
    (subst (λ x. x < 2 ^ 32) (sym c.number.ensures) (Fits-lt-pow (c.type_inv.f c.loop-i.i)))
    (subst (λ x. x < 2 ^ 32) (sym c.number-in-loop-i.ensures) (Fits-lt-pow (c.type_inv.g c.loop-i.i)))
    c.in_ok-push.ensures.items c.loop-i.invariant
