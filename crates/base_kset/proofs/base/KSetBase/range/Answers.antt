use Rattle.std.proofs.Common.{sym, subst}
use Rattle.base_kset.specs.Instance.{word_laws}
use Rattle.base_kset.specs.Meaning.{Fits}
use Rattle.base_kset.proofs.base.KSetBase.range.Goals as goal

pub returns-clause-fits : goal.returns-clause-fits
returns-clause-fits g c = subst (Fits g.row.K c.args.w) (sym c.from_to.ensures) ((word_laws g.row.K).range_fits tt c.args.w c.args.low c.args.high c.requires.width c.requires.order c.requires.number)
