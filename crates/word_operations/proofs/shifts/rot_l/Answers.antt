use Rattle.std.proofs.Common.{◌-◌, ◌*◌, ◌/◌, ◌%◌, ◌^◌, ◌<◌, bit_or, ap, ◌∙◌, arith, mod-lt, div-le_self}
use Rattle.std.proofs.lemmas.Nat.{or_lt}
use Rattle.word_operations.proofs.Powers.{mod_pow, or_rotated}
use Rattle.word_operations.proofs.shifts.rot_l.Goals as goal

pub returns-else-n-eq0-clause-value : goal.returns-else-n-eq0-clause-value
returns-else-n-eq0-clause-value c =
    let n = c.args.y % c.args.w in
    let within : n < c.args.w = mod-lt c.args.y c.requires.width.0 in
    ap (λ a. bit_or a (c.args.x / 2 ^ (c.args.w - n)))
    (c.lowest.ensures ∙ mod_pow (c.args.x * 2 ^ n) c.args.w 64 c.requires.width.1)
    ∙ or_rotated c.args.w c.args.x n (omega arith) c.requires.word

pub returns-else-n-eq0-clause-fits : goal.returns-else-n-eq0-clause-fits
returns-else-n-eq0-clause-fits c =
    let high = c.args.x / 2 ^ (c.args.w - c.args.y % c.args.w) in
    or_lt c.args.w c.lowest.result high (omega arith) (omega (arith, div-le_self c.args.x (2 ^ (c.args.w - c.args.y % c.args.w))))
