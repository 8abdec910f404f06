use Rattle.std.proofs.Common.{◌^◌, ◌≤◌, arith, pow_mono}
use Rattle.std.proofs.lemmas.Nat.{mul-le}
use Rattle.base_interval.proofs.mul.mul.Goals as goal

pub overflow_mul-x : goal.overflow_mul-x
overflow_mul-x c =
    let less = mul-le c.args.x.lo c.args.y.lo c.args.x.hi c.args.y.hi c.requires.left.0 c.requires.right.0 in
    let below = c.if-high-count.true in
    let whole = c.count.ensures in
    let room : 2 ^ c.args.w ≤ 2 ^ 64 = pow_mono c.requires.width.1 in
    omega arith
