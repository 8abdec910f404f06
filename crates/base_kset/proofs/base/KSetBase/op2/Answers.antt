use Rattle.std.proofs.Common.{sym, subst}
use Rattle.base_kset.specs.Instance.{word_laws}
use Rattle.base_kset.specs.Meaning.{Fits}
use Rattle.base_kset.proofs.base.KSetBase.op2.Goals as goal

pub returns-clause-fits : goal.returns-clause-fits
returns-clause-fits g c = subst (Fits g.row.K c.args.w) (sym c.product.ensures) ((word_laws g.row.K).op2_fits tt c.args.op c.args.w c.args.x.now c.args.y.now c.requires.width c.requires.left c.requires.right)
