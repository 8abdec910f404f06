use Rattle.std.proofs.Common.{◌<◌, ◌≤◌, ◌*◌, ◌^◌, arith, pow_mono}
use Rattle.std.proofs.lemmas.Int.{ints}
use Rattle.std.proofs.lemmas.Nat.{one_shl}
use Rattle.word_operations.proofs.Readings.{signed_low, signed_high}
use Rattle.code_image.proofs.rows.reading.Goals as goal

pub returns-then-w-gt64 : goal.returns-then-w-gt64
returns-then-w-gt64 c =
    let power : 2 ^ 65 ≤ 2 ^ c.args.w = pow_mono c.if-w-gt64.true in
    let low : 2 * c.args.x < 2 ^ c.args.w = omega arith in
    omega (arith, ints, signed_low c.args.w c.args.x low)

pub returns-then-x-power : goal.returns-then-x-power
returns-then-x-power c =
    let power = one_shl c.args.w 128 (omega arith) in
    let low : 2 * c.args.x < 2 ^ c.args.w = omega (arith, power) in
    omega (arith, ints, signed_low c.args.w c.args.x low)

pub returns-else-x-power : goal.returns-else-x-power
returns-else-x-power c =
    let power = one_shl c.args.w 128 (omega arith) in
    let high : 2 ^ c.args.w ≤ 2 * c.args.x = omega (arith, power) in
    omega (arith, ints, power, signed_high c.args.w c.args.x high)
