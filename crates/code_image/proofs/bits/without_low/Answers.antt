use Rattle.std.proofs.Common.{sym, arith}
use Rattle.code_image.proofs.bits.without_low.Goals as goal
use Rattle.spec_ir.proofs.Checks.{no_bit_past as none_past}

pub returns-else-n-lt64 : goal.returns-else-n-lt64
returns-else-n-lt64 c = sym (none_past c.args.v c.args.n (omega arith) c.if-n-lt64.false)
