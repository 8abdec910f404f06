use Rattle.std.proofs.Common.{◌≡◌, length, sym, subst}
use Rattle.std.proofs.lemmas.Result.{IfOk-weaker}
use Rattle.domain_affine_base.specs.Instance.{word_laws}
use Rattle.domain_affine_base.specs.Operations.{op1_word}
use Rattle.domain_affine_base.specs.Words.{Fits}
use Rattle.domain_affine_base.proofs.base.AffineBase.op1.Goals as goal

pub returns-clause-fits : goal.returns-clause-fits
returns-clause-fits c =
    let ctx = c.args._ctx.now in
    IfOk-weaker c.of_one.result (λ r. r ≡ op1_word c.args.op c.args.w c.args.x.now) (Fits (length c.args._ctx.now) c.args.w)
    (λ r e. subst (Fits (length c.args._ctx.now) c.args.w) (sym e) (word_laws.op1_fits ctx c.args.op c.args.w c.args.x.now c.requires.width c.requires.word)) c.of_one.ensures
