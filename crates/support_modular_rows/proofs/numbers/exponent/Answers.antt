use Rattle.std.proofs.Common.{◌+◌, ◌≤◌, sym, arith}
use Rattle.support_modular_rows.proofs.Powers.{half_power, halved}
use Rattle.support_modular_rows.proofs.numbers.exponent.Goals as goal

pub loop-rest-preserved : goal.loop-rest-preserved
loop-rest-preserved c =
    let half = half_power c.loop-rest.invariant.0 c.loop-rest.rest c.loop-rest.invariant.1 c.loop-rest-test.true in
    let few : c.loop-rest.count + 1 + half.0 ≤ 32 = omega (arith, half.1, c.loop-rest.invariant.2) in
    (half.0, half.2, few, sym (halved c.loop-rest.rest c.loop-rest.count c.args.power half.3 (sym c.loop-rest.invariant.3)))
