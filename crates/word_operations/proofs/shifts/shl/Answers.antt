use Rattle.std.proofs.Common.{◌≡◌, ◌*◌, ◌%◌, ◌^◌, min, ap, ◌∙◌, arith}
use Rattle.word_operations.proofs.Powers.{mod_pow}
use Rattle.word_operations.proofs.shifts.shl.Goals as goal

pub returns-then-y-w : goal.returns-then-y-w
returns-then-y-w c =
    let all : c.args.y ≡ min c.args.y c.args.w = omega arith in
    c.lowest.ensures
    ∙ mod_pow (c.args.x * 2 ^ c.args.y) c.args.w 64 c.requires.1
    ∙ ap (λ n. c.args.x * 2 ^ n % 2 ^ c.args.w) all
