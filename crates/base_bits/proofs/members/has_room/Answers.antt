use Rattle.std.proofs.Common.{◌≤◌, ◌^◌, arith, pow_mono}
use Rattle.std.specs.Prelude.{count_ones}
use Rattle.std.proofs.lemmas.Bool.Decides.{nat_tests}
use Rattle.base_bits.proofs.members.has_room.Goals as goal

pub returns-else-unknown-lt32 : goal.returns-else-unknown-lt32
returns-else-unknown-lt32 c =
    let many = c.if-unknown-lt32.false in
    let large : 2 ^ 32 ≤ 2 ^ count_ones c.args.x.m = pow_mono many in
    let small = c.ranges.limit in
    grind (arith, nat_tests, many, large, small)
