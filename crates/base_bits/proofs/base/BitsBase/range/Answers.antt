use Rattle.std.proofs.Common.{sym, subst}
use Rattle.base_bits.specs.Known.{Fits}
use Rattle.base_bits.specs.Instance.{word_laws}
use Rattle.base_bits.proofs.base.BitsBase.range.Goals as goal

pub returns-clause-fits : goal.returns-clause-fits
returns-clause-fits c = subst (Fits c.args.w) (sym c.range.ensures) (word_laws.range_fits tt c.args.w c.args.low c.args.high c.requires.width c.requires.order c.requires.number)
