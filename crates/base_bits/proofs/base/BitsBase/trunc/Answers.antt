use Rattle.std.proofs.Common.{sym, subst}
use Rattle.base_bits.specs.Known.{Fits}
use Rattle.base_bits.specs.Instance.{word_laws}
use Rattle.base_bits.proofs.base.BitsBase.trunc.Goals as goal

pub returns-clause-fits : goal.returns-clause-fits
returns-clause-fits c = subst (Fits c.args.to) (sym c.trunc.ensures) (word_laws.trunc_fits tt c.args.from c.args.to c.args.x.now c.requires.widths c.requires.word)
