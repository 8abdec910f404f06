use Rattle.std.proofs.Common.{sym, subst}
use Rattle.base_interval.specs.Instance.{word_laws}
use Rattle.base_interval.specs.Range.{Fits}
use Rattle.base_interval.proofs.base.IntervalBase.sext.Goals as goal

pub returns-clause-fits : goal.returns-clause-fits
returns-clause-fits c = subst (Fits c.args.to) (sym c.sext.ensures) (word_laws.sext_fits tt c.args.from c.args.to c.args.x.now c.requires.widths c.requires.word)
