use Rattle.std.proofs.Common.{◌+◌, ◌-◌, ◌^◌, ◌∙◌, le_of_lt}
use Rattle.word_operations.proofs.Powers.{mod_pow, sub_pow}
use Rattle.word_operations.proofs.arithmetic.sub.Goals as goal

pub returns : goal.returns
returns c =
    c.lowest.ensures
    ∙ mod_pow (c.args.x + (2 ^ 64 - c.args.y)) c.args.w 64 c.requires.width.1
    ∙ sub_pow c.args.x c.args.y c.args.w 64 c.requires.width.1 (le_of_lt c.requires.right)
