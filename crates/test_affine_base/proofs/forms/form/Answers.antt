use Rattle.std.proofs.Common.{◌≡◌, ◌+◌, length, sym, ap, subst, arith}
use Rattle.domain_affine_base.specs.Words.{Fits}
use Rattle.test_affine_base.proofs.forms.form.Goals as goal

pub returns-then-len : goal.returns-then-len
returns-then-len c =
    let cells : length c.ctx.inside.cells.items ≡ length c.args.ctx.now = ap length c.ctx.view_is in
    let same = c.if-len.true in let here = c.len.ensures in let there = c.len-then-w-eq32.ensures in
    let size : length c.loop-part.c.items ≡ length c.args.ctx.now + 1 = omega (arith, cells, same, here, there) in
    subst (λ v. Fits (length c.args.ctx.now) v c.of_form.result) (sym c.if-w-eq32.true) (c.of_form.ensures.fits (length c.args.ctx.now) size)
