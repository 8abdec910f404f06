use Rattle.std.proofs.Common.{sym, subst}
use Rattle.base_kset.specs.Instance.{word_laws}
use Rattle.base_kset.specs.Meaning.{Fits}
use Rattle.base_kset.proofs.base.KSetBase.zext.Goals as goal

pub returns-clause-fits : goal.returns-clause-fits
returns-clause-fits g c = subst (Fits g.row.K c.args.to) (sym c.image.ensures) ((word_laws g.row.K).zext_fits tt c.args.from c.args.to c.args.x.now c.requires.widths c.requires.word)
