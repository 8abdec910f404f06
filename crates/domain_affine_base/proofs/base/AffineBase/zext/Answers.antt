use Rattle.std.proofs.Common.{length, sym, subst}
use Rattle.domain_affine_base.specs.Instance.{word_laws}
use Rattle.domain_affine_base.specs.Words.{Fits}
use Rattle.domain_affine_base.proofs.base.AffineBase.zext.Goals as goal

pub returns-clause-fits : goal.returns-clause-fits
returns-clause-fits c =
    subst (Fits (length c.args._ctx.now) c.args.to) (sym c.zext.ensures)
    (word_laws.zext_fits c.args._ctx.now c.args.from c.args.to c.args.x.now c.requires.widths c.requires.word)
