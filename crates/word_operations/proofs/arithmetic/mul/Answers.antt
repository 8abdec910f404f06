use Rattle.std.proofs.Common.{◌*◌, ◌∙◌}
use Rattle.word_operations.proofs.Powers.{mod_pow}
use Rattle.word_operations.proofs.arithmetic.mul.Goals as goal

pub returns : goal.returns
returns c = c.lowest.ensures ∙ mod_pow (c.args.x * c.args.y) c.args.w 64 c.requires.1
