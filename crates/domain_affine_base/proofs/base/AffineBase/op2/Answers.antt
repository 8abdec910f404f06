use Rattle.std.proofs.Common.{◌≡◌, length, sym, subst}
use Rattle.std.proofs.lemmas.Result.{IfOk-weaker}
use Rattle.domain_affine_base.specs.Instance.{word_laws}
use Rattle.domain_affine_base.specs.Operations.{op2_word}
use Rattle.domain_affine_base.specs.Words.{Fits}
use Rattle.domain_affine_base.proofs.base.AffineBase.op2.Goals as goal

pub returns-clause-fits : goal.returns-clause-fits
returns-clause-fits c =
    let ctx = c.args._ctx.now in
    IfOk-weaker c.of_two.result (λ r. r ≡ op2_word c.args.op c.args.w c.args.x.now c.args.y.now) (Fits (length c.args._ctx.now) c.args.w)
    (λ r e. subst (Fits (length c.args._ctx.now) c.args.w) (sym e)
    (word_laws.op2_fits ctx c.args.op c.args.w c.args.x.now c.args.y.now c.requires.width c.requires.left c.requires.right)) c.of_two.ensures
