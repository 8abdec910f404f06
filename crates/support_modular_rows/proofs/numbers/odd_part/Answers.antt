use Rattle.std.proofs.Common.{◌≡◌, ◌<◌, ◌+◌, ◌/◌, ◌%◌, ◌^◌, arith, div-add-mod'}
use Rattle.support_modular_rows.proofs.Powers.{halved, few_halves}
use Rattle.support_modular_rows.proofs.numbers.odd_part.Goals as goal

pub loop-odd-preserved : goal.loop-odd-preserved
loop-odd-preserved c =
    let even : c.loop-odd.odd % 2 ≡ 0 = omega arith in
    let positive : 0 < c.loop-odd.odd / 2 = omega (arith, div-add-mod' c.loop-odd.odd 2, c.loop-odd.invariant.0) in
    (positive, (c.loop-odd.invariant.1.0 + 1, halved c.loop-odd.odd c.loop-odd.invariant.1.0 c.args.a even c.loop-odd.invariant.1.1))

pub returns-clause-power : goal.returns-clause-power
returns-clause-power c =
    let small : c.args.a < 2 ^ 32 = omega arith in
    (c.loop-odd.invariant.1.0, few_halves c.loop-odd.odd c.loop-odd.invariant.1.0 c.args.a c.loop-odd.invariant.0 c.loop-odd.invariant.1.1 small, c.loop-odd.invariant.1.1)
