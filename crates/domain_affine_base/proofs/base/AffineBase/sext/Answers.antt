use Rattle.std.proofs.Common.{length, sym, subst}
use Rattle.domain_affine_base.specs.Instance.{word_laws}
use Rattle.domain_affine_base.specs.Words.{Fits}
use Rattle.domain_affine_base.proofs.base.AffineBase.sext.Goals as goal

pub returns-clause-fits : goal.returns-clause-fits
returns-clause-fits c =
    subst (Fits (length c.args._ctx.now) c.args.to) (sym c.sext.ensures)
    (word_laws.sext_fits c.args._ctx.now c.args.from c.args.to c.args.x.now c.requires.widths c.requires.word)
