use Rattle.std.proofs.Common.{◌≤◌, ◌+◌, ◌*◌, ◌∙◌, arith}
use Rattle.support_modular_rows.proofs.Powers.{product_step, square_one, mod_power}
use Rattle.support_modular_rows.proofs.numbers.inverse.Goals as goal

pub loop-i-preserved : goal.loop-i-preserved
loop-i-preserved c =
    let within : c.loop-i.i + 1 + 1 ≤ 32 = omega arith in
    record {
      product = product_step c.args.a c.loop-i.product c.loop-i.power c.loop-i.invariant.product;
      one = mod_power (c.loop-i.power * c.loop-i.power) (c.loop-i.i + 1 + 1) 32 within ∙ square_one c.loop-i.power c.loop-i.i c.loop-i.invariant.one;
    }
