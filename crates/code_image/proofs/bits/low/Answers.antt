use Rattle.std.proofs.Common.{◌<◌, ◌^◌, sym, arith, pow_mono, lt_of_lt_of_le}
use Rattle.std.proofs.Math.Nat.{mod-eq_of_lt}
use Rattle.code_image.proofs.bits.low.Goals as goal

pub returns-else-w-lt64 : goal.returns-else-w-lt64
returns-else-w-lt64 c =
    let below : c.args.v < 2 ^ c.args.w = lt_of_lt_of_le (omega arith) (pow_mono c.if-w-lt64.false) in
    sym (mod-eq_of_lt below)
