use Rattle.std.proofs.Common.{sym, subst}
use Rattle.base_bits.specs.Known.{Fits}
use Rattle.base_bits.specs.Instance.{word_laws}
use Rattle.base_bits.proofs.base.BitsBase.widen.Goals as goal

pub returns-clause-fits : goal.returns-clause-fits
returns-clause-fits c = subst (Fits c.args.w) (sym c.join.ensures) (word_laws.widen_fits tt c.args.w c.args.old.now c.args.new.now c.requires.width c.requires.left c.requires.right)
