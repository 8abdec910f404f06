use Rattle.base_interval.specs.Instance.{word_laws}
use Rattle.base_interval.proofs.base.IntervalBase.zext.Goals as goal

pub returns-clause-fits : goal.returns-clause-fits
returns-clause-fits c = word_laws.zext_fits tt c.args.from c.args.to c.args.x.now c.requires.widths c.requires.word
