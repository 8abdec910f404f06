use Rattle.std.proofs.Common.{sym, subst}
use Rattle.base_bits.specs.Known.{Fits}
use Rattle.base_bits.specs.Instance.{word_laws}
use Rattle.base_bits.proofs.base.BitsBase.op1.Goals as goal

pub returns-clause-fits : goal.returns-clause-fits
returns-clause-fits c = subst (Fits c.args.w) (sym c.of_one.ensures) (word_laws.op1_fits tt c.args.op c.args.w c.args.x.now c.requires.width c.requires.word)
