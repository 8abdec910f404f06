use Rattle.std.proofs.Common.{◌*◌, ◌^◌, ◌<◌, ◌≤◌, arith}
use Rattle.std.proofs.lemmas.Int.{ints}
use Rattle.word_operations.proofs.Readings.{signed_low, signed_high}
use Rattle.word_operations.proofs.signed.signed_value.Goals as goal

pub returns-then-x-greatest-clause-value : goal.returns-then-x-greatest-clause-value
returns-then-x-greatest-clause-value c =
    let low : 2 * c.args.x < 2 ^ c.args.w = omega arith in
    omega (arith, ints, signed_low c.args.w c.args.x low)

pub returns-else-x-greatest-clause-value : goal.returns-else-x-greatest-clause-value
returns-else-x-greatest-clause-value c =
    let high : 2 ^ c.args.w ≤ 2 * c.args.x = omega arith in
    omega (arith, ints, signed_high c.args.w c.args.x high)
