use Rattle.std.proofs.Common.{◌-◌, ◌/◌, ◌^◌, ◌≤◌, ap, ◌∙◌, arith, div-le_self, pow_mono, pow_pos}
use Rattle.std.specs.Int.Count.{count_leading_zeros}
use Rattle.base_interval.proofs.Digits.{ones_left}
use Rattle.base_interval.proofs.ones.ones_over.Goals as goal

pub overflow_sub-zeros-2 : goal.overflow_sub-zeros-2
overflow_sub-zeros-2 c = (ones_left c.args.w c.args.n c.requires.width c.requires.word).0

pub overflow_cast-result-2 : goal.overflow_cast-result-2
overflow_cast-result-2 c =
    let less = div-le_self (c.count.result - 1) (2 ^ (count_leading_zeros 64 c.args.n - (64 - c.args.w))) in
    let whole = c.count.ensures in
    let room : 2 ^ c.args.w ≤ 2 ^ 64 = pow_mono c.requires.width.1 in
    let some = pow_pos c.args.w in
    omega arith

pub returns : goal.returns
returns c =
    ap (λ k. (k - 1) / 2 ^ (count_leading_zeros 64 c.args.n - (64 - c.args.w))) c.count.ensures
    ∙ (ones_left c.args.w c.args.n c.requires.width c.requires.word).1
