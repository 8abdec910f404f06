use Rattle.std.proofs.Common.{◌<◌, ◌^◌, sym, subst}
use Rattle.base_bits.specs.Describing.{greatest_below}
use Rattle.base_bits.proofs.compare.unsigned_ends.Goals as goal

pub returns-clause-words : goal.returns-clause-words
returns-clause-words c = (c.requires.known, subst (λ z. z < 2 ^ c.args.w) (sym c.greatest.ensures) (greatest_below c.args.w c.args.x c.requires))
