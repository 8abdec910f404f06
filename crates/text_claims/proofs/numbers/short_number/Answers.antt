use Rattle.std.proofs.Common.{◌<◌, ◌^◌, sym, arith}
use Rattle.text_claims.proofs.ShortNumbers.{short_below}
use Rattle.text_claims.proofs.numbers.short_number.Goals as goal

pub overflow_cast-result : goal.overflow_cast-result
overflow_cast-result c = let small : c.in-Some.n < 2 ^ 32 = short_below c.args.text.now c.in-Some.n (sym c.in-Some.ensures) in omega (arith, small)
