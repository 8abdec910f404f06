use Rattle.std.proofs.Common.{sym, subst}
use Rattle.base_bits.specs.Known.{Fits}
use Rattle.base_bits.specs.Instance.{word_laws}
use Rattle.base_bits.proofs.base.BitsBase.zext.Goals as goal

pub returns-clause-fits : goal.returns-clause-fits
returns-clause-fits c = subst (Fits c.args.to) (sym c.zext.ensures) (word_laws.zext_fits tt c.args.from c.args.to c.args.x.now c.requires.widths c.requires.word)
